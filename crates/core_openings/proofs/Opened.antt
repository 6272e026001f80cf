-- A store that was opened with what a rebuild kept, where the rebuild may be opened: its setting is one, its state is that of an opening, it is
-- sound, and nothing is logged.
use Rattle.std.proofs.Common.{◌≡◌, ℕ, zero, suc, ◌+◌, ◌<◌, ◌≤◌, List, [], ◌∷◌, Option, None, map, replicate, length, get_or, refl, sym, ap, ◌∙◌, subst, arith, Contains, ◌%◌, ◌/◌}
use Rattle.std.specs.Prelude.{slice_index}
use Rattle.std.proofs.lemmas.List.{length-replicate}
use mathlib.Core.Option.{some, some-injective, some-ne-none}
use lib.ListN.{get_elem?, get_or-eq_default}
use Rattle.store_key.specs.Anchor.{anchor_of}
use Rattle.link_word.specs.declared.link.Link.TheVariants.{Last}
use Rattle.link_word.specs.Map.{map_words, taken_in}
use Rattle.link_word.proofs.Mapped.{word_within}
use Rattle.rebuild_model.specs.declared.found.Found.{Found}
use Rattle.rebuild_model.specs.declared.rebuilt.Rebuilt.{Rebuilt}
use Rattle.core_model.specs.declared.moves.Side.TheVariants.{Key0, Key1, Offer, Start}
use Rattle.core_model.specs.declared.view.Place.TheVariants.{Link as LinkWord, Map}
use Rattle.core_model.specs.Chains.{no_chain, Spells}
use Rattle.core_model.specs.Layout.{counter_index, index, log_index, word_count}
use Rattle.core_model.specs.Opening.{IsOpened, IsKeptAt, IsEmptyAt}
use Rattle.core_model.specs.Slots.{used}
use Rattle.core_model.specs.Sound.{Sound}
use Rattle.core_model.proofs.SlotsOpened.{spells_alike}
use Rattle.core_table.specs.declared.opening.Opening.{Opening}
use Rattle.core_table.specs.Inside.{setting}
use Rattle.core_table.specs.Kept.{anchor_words, link_words, kept_chain, AreOpened, AreWithin, IsOpening, opened_state}
use Rattle.core_table.specs.Machine.{opened_from}
use Rattle.core_table.specs.New.{cell_of}
use Rattle.core_table.proofs.Placing.{length-placed, placed_else, placed_here, length-linked, linked_else, linked_spells, Rows, rows, length-rows, at_anchor, at_link, at_turn, at_map, at_counter, at_log}
use Rattle.core_table.proofs.Lists.{same_at}
use Rattle.core_openings.specs.KeptSo.{IsKeptSo}
use Rattle.core_openings.proofs.Columns.{Column, Anchor, Beside, column_index, entry_word, column_within, many_words, here, empty_at}
use Rattle.core_openings.proofs.Sounding.{opens_sound}
use Rattle.core_openings.proofs.Winners.{all_within, free_in_none, anchors_apart, chains_apart}

length-mapped : {X Y : Type 0} → (f : X → Y) (xs : List X) → length (map f xs) ≡ length xs
length-mapped f [] = refl
length-mapped f (x ∷ xs) = let r = length-mapped f xs in omega arith

length-opened : (from n : ℕ) → length (opened_from from n) ≡ n
length-opened from zero = refl
length-opened from (suc n) = let r = length-opened (from + 1) n in omega arith

mapped_at : {X Y : Type 0} → (f : X → Option Y) (xs : List X) (i : ℕ) (x : X) → get_elem? xs i ≡ some x → get_or (map f xs) i None ≡ f x
mapped_at f [] i x e = absurd (some-ne-none x (sym e))
mapped_at f (y ∷ ys) zero x e = ap f (some-injective y x e)
mapped_at f (y ∷ ys) (suc i) x e = mapped_at f ys i x e

anchor_below : (key : List ℕ) (anchors : ℕ) → 0 < anchors → anchor_of key anchors < anchors
anchor_below key anchors some_anchor = omega arith

module _ (o : Opening) (r : Rebuilt) (opened : AreOpened r o.anchors o.slots o.words.items) (b : IsKeptSo o.anchors o.slots r) (some_anchor : 0 < o.anchors) where
  abbrev place : Found → ℕ
  place f = anchor_of f.key o.anchors

  abbrev area : List ℕ
  area = anchor_words r.winners o.anchors

  abbrev table : Rows o.anchors o.slots
  table = record {
    words = area;
    links = link_words r.winners o.slots;
    map = opened.map;
    counter = r.greatest;
    many_words = many_words r.winners o.anchors;
    many_links = length-linked (replicate o.slots 0) r.winners ∙ length-replicate o.slots 0;
    many_map = opened.map_is.many ∙ ap map_words b.one_a_slot;
  }

  -- a word of the opening is that of the rows
  told : (j v : ℕ) → get_or (rows o.anchors o.slots table) j 0 ≡ v → slice_index o.words.items j ≡ v
  told j v is = ap (λ (ws : List ℕ). slice_index ws j) opened.words_are ∙ is

  below : (f : Found) → place f < o.anchors
  below f = anchor_below f.key o.anchors some_anchor

  -- one of the five words of an anchor
  in_area : (c : Column) (a : ℕ) → a < o.anchors → slice_index o.words.items (column_index c a) ≡ get_or area (column_index c a) 0
  in_area c a lt = told _ _ (at_anchor o.anchors o.slots table (column_index c a) (column_within c a o.anchors lt))

  -- where an entry stands, and where none does
  kept_word : (c : Column) (f : Found) → Contains r.winners f → slice_index o.words.items (column_index c (place f)) ≡ entry_word c f
  kept_word c f h = in_area c (place f) (below f) ∙ here r.winners o.anchors (anchors_apart o.anchors o.slots r b) below f h c

  empty_word_at : (c : Column) (a : ℕ) → a < o.anchors → ((f : Found) → Contains r.winners f → place f ≡ a → ⊥) → slice_index o.words.items (column_index c a) ≡ 0
  empty_word_at c a lt none = in_area c a lt ∙ empty_at r.winners o.anchors c a none

  link_word : (s : ℕ) → s < o.slots → slice_index o.words.items (index (setting o) (LinkWord s)) ≡ get_or (link_words r.winners o.slots) s 0
  link_word s lt = told _ _ (at_link o.anchors o.slots table s _ lt refl)

  -- the bit of a slot in the map
  bit_word : (s : ℕ) → s / 64 < map_words o.slots → taken_in (slice_index o.words.items (index (setting o) (Map (s / 64)))) s ≡ used (slice_index r.owner s)
  bit_word s lt = ap (λ (n : ℕ). taken_in n s) (told _ _ (at_map o.anchors o.slots table (s / 64) _ lt refl))
      ∙ opened.map_is.each (s / 64) (let e = ap map_words b.one_a_slot in omega arith) (s % 64) (omega arith) ∙ ap (λ (z : ℕ). used (slice_index r.owner z)) (omega arith)

  counter_word : slice_index o.words.items (counter_index (setting o)) ≡ r.greatest
  counter_word = told _ _ (at_counter o.anchors o.slots table _ refl)

  log_word : slice_index o.words.items (log_index (setting o)) ≡ 0
  log_word = told _ _ (at_log o.anchors o.slots table _ refl)

  pub all_words : length o.words.items ≡ word_count (setting o)
  all_words = ap length opened.words_are ∙ length-rows o.anchors o.slots table

  spelled : (f : Found) → Contains r.winners f → Spells (λ s. slice_index o.words.items (index (setting o) (LinkWord s))) f.chain Last
  spelled f h =
      let within = subst (AreWithin r.winners) (sym (length-replicate o.slots 0)) (all_within o.anchors o.slots r b) in
      spells_alike (λ s. get_or (link_words r.winners o.slots) s 0) (λ s. slice_index o.words.items (index (setting o) (LinkWord s))) f.chain Last
      (λ s has. link_word s (slot_below s has))
      (linked_spells (replicate o.slots 0) r.winners (chains_apart o.anchors o.slots r b) (b.once) within f h)
    where
      slot_below : (s : ℕ) → Contains f.chain s → s < o.slots
      slot_below s has = b.within f h s has

  kept_at : (f : Found) → Contains r.winners f → IsKeptAt (setting o) (opened_state o r) (place f) f
  kept_at f h = record {
    word_is = kept_word Anchor f h;
    key0 = kept_word (Beside Key0) f h;
    key1 = kept_word (Beside Key1) f h;
    offer = kept_word (Beside Offer) f h;
    start = kept_word (Beside Start) f h;
    chain = placed_here place kept_chain (replicate o.anchors no_chain) r.winners no_chain (anchors_apart o.anchors o.slots r b) f h (let z = length-replicate o.anchors no_chain in let y = below f in omega arith);
    links = spelled f h;
  }

  empty_anchor : (a : ℕ) → a < o.anchors → ((f : Found) → Contains r.winners f → place f ≡ a → ⊥) → IsEmptyAt (setting o) (opened_state o r) a
  empty_anchor a lt none = record {
    word_is = empty_word_at Anchor a lt none;
    sides = λ side. empty_word_at (Beside side) a lt none;
    chain = placed_else place kept_chain (replicate o.anchors no_chain) r.winners a no_chain none ∙ same_at o.anchors a no_chain;
  }

  pub is_opened : o.passes ≤ 32 → IsOpened (setting o) r (opened_state o r)
  is_opened few = record {
    few = few;
    words = refl;
    count = all_words;
    contents = length-opened 0 o.slots;
    kept = kept_at;
    empty = empty_anchor;
    taken = λ s lt. bit_word s (word_within o.slots s lt);
    ends = λ s high lt. bit_word s lt ∙ ap used (get_or-eq_default r.owner 0 (let e = b.one_a_slot in omega arith));
    free = λ s lt free. link_word s lt ∙ linked_else (replicate o.slots 0) r.winners s (free_in_none o.anchors o.slots r b s free) ∙ same_at o.slots s 0;
    turns = λ s lt. told _ _ (at_turn o.anchors o.slots table s _ lt refl);
    counter = counter_word;
    log = log_word;
    chains = length-placed place kept_chain (replicate o.anchors no_chain) r.winners ∙ length-replicate o.anchors no_chain;
    places = length-mapped cell_of (opened_from 0 o.slots) ∙ length-opened 0 o.slots;
    cells = λ s lt x at. mapped_at cell_of (opened_from 0 o.slots) s x at;
    views = refl;
  }

  pub is_sound : o.passes ≤ 32 → Sound (setting o) (opened_state o r)
  is_sound few = opens_sound (setting o) r (opened_state o r) (is_opened few) b

-- the same of an opening with these numbers
module _ (o : Opening) (r : Rebuilt) (anchors slots passes : ℕ) (is : IsOpening o r anchors slots passes) (b : IsKeptSo anchors slots r) (some_anchor : 0 < anchors) (few : passes ≤ 32) where
  kept_here : IsKeptSo o.anchors o.slots r
  kept_here = subst (λ (n : ℕ). IsKeptSo n o.slots r) (sym is.anchors_are) (subst (λ (n : ℕ). IsKeptSo anchors n r) (sym is.slots_are) b)

  some_here : 0 < o.anchors
  some_here = let same = is.anchors_are in omega arith

  few_here : o.passes ≤ 32
  few_here = let same = is.passes_are in omega arith

  pub words_there : length o.words.items ≡ word_count (setting o)
  words_there = all_words o r is.words kept_here some_here

  pub opened_so : IsOpened (setting o) r (opened_state o r)
  opened_so = is_opened o r is.words kept_here some_here few_here

  pub sound_so : Sound (setting o) (opened_state o r)
  sound_so = is_sound o r is.words kept_here some_here few_here
