-- Where all cells are at home, the chain of a closed entry spells the response of its offer in what reads of them give.
use Rattle.std.proofs.Common.{Contains, List, [], ap, arith, drop, inl, length, refl, subst, suc, sym, zero, ⊎_elim, ◌+◌, ◌-◌, ◌<◌, ◌∙◌, ◌∷◌, ◌≡◌, ◌≤◌, ◌^◌, ℕ}
use Rattle.std.specs.Prelude.{negsuc, pos}
use Rattle.std.specs.List.{AllByRecursion}
use Rattle.std.proofs.lemmas.List.Elements.{All-from_recursion}
use mathlib.Core.Option.{some}
use mathlib.Core.Logic.{dite}
use native.Mathlib.Decide.{ℕ_discrete}
use lib.ListN.{get_elem?}
use Rattle.lock_word.specs.Words.{epoch_of, stage_of, version_of}
use Rattle.link_word.specs.declared.link.Link.{Link}
use Rattle.link_word.specs.declared.link.Link.TheVariants.{Last}
use Rattle.rebuild_model.specs.Entry.{Entry, IsComplete}
use Rattle.rebuild_model.specs.Image.{image_at}
use Rattle.entry_cut.specs.Content.{Cut, count, image}
use Rattle.entry_cut.specs.Standing.{IsWritable, Stand, StandFrom, entry_of}
use Rattle.core_model.specs.declared.chain.Chain.{Chain}
use Rattle.core_model.specs.declared.moves.Side.TheVariants.{Offer}
use Rattle.core_model.specs.Anchors.{opening_counter}
use Rattle.core_model.specs.Cells.{IsContent}
use Rattle.core_model.specs.Chains.{first_of, link_at, link_to, rest_of, times}
use Rattle.core_model.specs.Layout.{Setting}
use Rattle.core_model.specs.Slots.{ChainStands, slot_words, used}
use Rattle.core_model.specs.Sound.{Sound}
use Rattle.core_model.specs.State.{State, chain_of, side_word, word}
use Rattle.core_model.proofs.DeedsTell.{known_old}
use Rattle.core_model.proofs.FollowsKept.{at_times}
use Rattle.core_model.proofs.Lists.{at_or}
use Rattle.core_model.proofs.SlotFrame.{used_few}
use Rattle.core_model.proofs.SlotsLoosened.{standing_few}
use Rattle.core_model.proofs.Spelling.{distinct, last_is_written, some_fits, suc_is}
use Rattle.core_model.proofs.Tabs.{contains_times}
use Rattle.core_model.proofs.Telling.{stage_told, told_out}
use Rattle.rebuild_model.proofs.Depends.{complete_in}
use Rattle.store_rule.specs.Ground.{Ground, Rule, cut_of}
use Rattle.store_rule.specs.Setting.{next_number}
use Rattle.rock_reader.specs.Responses.{IsResponse}
use Rattle.plain_runs.specs.Ends.{HasVersions, IsHomeAs, SpellsResponse, TellsPieces}

all_below : (n : ℕ) (xs : List ℕ) → ((j : ℕ) → Contains xs j → j < n) → AllByRecursion (λ s. s < n) xs
all_below n [] h = tt
all_below n (x ∷ xs) h = (h x (0, omega arith, refl), all_below n xs (λ j c. h j (suc c.0, (let z = c.1 in omega arith), c.2)))

-- what a list contains stands at a place
place_of : (xs : List ℕ) (j : ℕ) → Contains xs j → (p : ℕ) × (get_elem? xs p ≡ some j)
place_of [] j (i, less, e) = absurd (omega arith)
place_of (x ∷ xs) j (zero, less, e) = (0, ap some e)
place_of (x ∷ xs) j (suc i, less, e) = let r = place_of xs j (i, omega arith, e) in (suc r.0, r.1)

begins : (xs : List ℕ) → 0 < length xs → xs ≡ first_of xs ∷ rest_of xs
begins [] h = absurd (omega arith)
begins (x ∷ xs) h = refl

-- where each slot of a list holds the piece of its place, from place n on, and no more pieces follow, the pieces stand there
stands_from : (c : Cut) (images : List (List ℕ)) (n : ℕ) (xs : List ℕ) → 0 < length xs → n + length xs ≡ count c
    → ((p s : ℕ) → get_elem? xs p ≡ some s → image_at images s ≡ image c (n + p) (next_number (link_to (drop (suc p) xs) Last)))
    → StandFrom c images n xs
stands_from c images n [] some_slot all holds = absurd (omega arith)
stands_from c images n (x ∷ []) some_slot all holds = (holds 0 x refl ∙ ap (λ (z : ℕ). image c z (negsuc 0)) (omega arith), omega arith)
stands_from c images n (x ∷ y ∷ ys) some_slot all holds = (
  holds 0 x refl ∙ ap (λ (z : ℕ). image c z (pos y)) (omega arith),
  stands_from c images (n + 1) (y ∷ ys) (omega arith) (omega arith)
      (λ p s e. holds (suc p) s e ∙ ap (λ (z : ℕ). image c z (next_number (link_to (drop (suc p) (y ∷ ys)) Last))) (omega arith)),
)

module _ (g : Ground (List ℕ)) (s : State (List ℕ)) (rule : Rule g s) (pieces : TellsPieces g) (versions : HasVersions g) (images : List (List ℕ)) (home : IsHomeAs g s images) (a : ℕ) (lt : a < g.setting.anchors) where
  abbrev k : Setting (List ℕ)
  k = g.setting

  abbrev c : Chain
  c = chain_of s a

  so : Sound g.setting s
  so = rule.sound

  times_few : (j : ℕ) → times j c.slots ≤ 1
  times_few j = let l = standing_few j s.chains a in let p = rule.sound.slots.places.taken j in let u = used_few ((slot_words g.setting s.words).taken j) in omega arith

  inside : (j : ℕ) → 0 < times j c.slots → j < g.setting.slots
  inside j h = dite (ℕ_discrete (g.setting.slots - j) 0)
      (λ e. absurd (let l = standing_few j s.chains a in let p = rule.sound.slots.places.taken j in let z = unowned (omega arith) in omega arith))
      (λ ne. omega arith)
    where
      unowned : g.setting.slots ≤ j → used ((slot_words g.setting s.words).taken j) ≡ 0
      unowned far = ap used (told_out g.setting.slots j _ far)

  -- the slot at a place of the chain, by its image
  content_at : (place slot : ℕ) → get_elem? c.slots place ≡ some slot → IsContent g.setting s a place slot (image_at images slot)
  content_at place slot at =
      let h = home.cells slot (inside slot (at_times c.slots place slot at)) in
      subst (IsContent g.setting s a place slot) (sym h.2) (rule.sound.cells.contents.published a place slot h.0 lt at (inl h.1))

  module _ (closed : stage_of (epoch_of (word s a)) ≡ 3) where
    stands : ChainStands 3 ((slot_words g.setting s.words).start a) (slot_words g.setting s.words).link c
    stands = subst (λ (z : ℕ). ChainStands z ((slot_words g.setting s.words).start a) (slot_words g.setting s.words).link c) (stage_told g.setting s.words a lt ∙ closed) (rule.sound.slots.stand a lt)

    end : c.end ≡ Last
    end = stands.closed refl

    some_slot : 0 < length c.slots
    some_slot = some_fits c.slots c.end stands.fits (λ e. last_is_written (sym end ∙ e))

    -- An entry of the opening has the same images still.
    module _ (low : version_of (epoch_of (word s a)) ≤ opening_counter g.setting) (many : length g.setting.contents ≡ g.setting.slots)
        (e : Entry) (complete : IsComplete g.slot g.setting.contents e) (chain_is : e.chain ≡ g.chain a) where
      same_slots : c.slots ≡ e.chain
      same_slots = (rule.offered.old a lt some_slot low).slots ∙ sym chain_is

      offer_low : side_word g.setting s Offer a < g.setting.slots
      offer_low = (rule.offered.old a lt some_slot low).inside

      same_image : (j : ℕ) → Contains e.chain j → image_at images j ≡ image_at g.setting.contents j
      same_image j h = let p = place_of c.slots j (subst (λ (xs : List ℕ). Contains xs j) (sym same_slots) h) in ⊎_elim
          (λ (q : (side_word g.setting s Offer a < g.setting.slots) × (get_elem? g.setting.contents j ≡ some (image_at images j))). sym (at_or g.setting.contents j (image_at images j) [] q.1))
          (λ (q : (g.setting.slots ≤ side_word g.setting s Offer a) × _). absurd (let l = offer_low in let z = q.0 in omega arith))
          (content_at p.0 j p.1)

      complete_still : IsComplete g.slot images e
      complete_still = complete_in g.slot g.setting.contents images (home.many ∙ sym many) e same_image complete

      version_still : e.version ≡ version_of (epoch_of (word s a))
      version_still = versions a e lt complete chain_is ∙ sym (known_old g.setting s rule.sound a (epoch_of (word s a)) (inl (lt, refl)) low).version

    -- A new one has the pieces of its offer.
    module _ (high : opening_counter g.setting < version_of (epoch_of (word s a))) (sized : g.slot < 2 ^ 32) (few : g.setting.slots ≤ 1048576)
        (placed : (cut : Cut) (images : List (List ℕ)) (chain : List ℕ) → IsWritable cut → length images ≤ 1048576 → Stand cut images chain → IsComplete cut.slot images (entry_of cut chain)) where
      abbrev offer : ℕ
      offer = side_word g.setting s Offer a

      abbrev version : ℕ
      version = version_of (epoch_of (word s a))

      abbrev cut : Cut
      cut = cut_of g offer version (first_of c.slots)

      offer_high : g.setting.slots ≤ offer
      offer_high = rule.sound.cells.names.offers a lt some_slot high

      link_is : (p : ℕ) → link_at c p ≡ link_to (drop (suc p) c.slots) Last
      link_is p = ap (λ (z : ℕ). link_to (drop z c.slots) c.end) (sym (suc_is p)) ∙ ap (link_to (drop (suc p) c.slots)) end

      piece_at : (p j : ℕ) → get_elem? c.slots p ≡ some j → image_at images j ≡ image cut (0 + p) (next_number (link_to (drop (suc p) c.slots) Last))
      piece_at p j at = ⊎_elim
          (λ (q : (offer < g.setting.slots) × _). absurd (let h = offer_high in let z = q.0 in omega arith))
          (λ (q : (g.setting.slots ≤ offer) × (image_at images j ≡ g.setting.image record { offer = offer; version = version; place = p; first = first_of c.slots; next = link_at c p })).
          q.1
          ∙ pieces record { offer = offer; version = version; place = p; first = first_of c.slots; next = link_at c p }
          ∙ ap (λ (z : Link). image cut p (next_number z)) (link_is p)
          ∙ ap (λ (z : ℕ). image cut z (next_number (link_to (drop (suc p) c.slots) Last))) (omega arith))
          (content_at p j at)

      all_pieces : 0 + length c.slots ≡ count cut
      all_pieces = let z = (rule.offered.new a lt some_slot high).last.0 end in omega arith

      stand : Stand cut images c.slots
      stand = record {
        behind = rest_of c.slots;
        begins = begins c.slots some_slot;
        within = All-from_recursion _ c.slots (all_below (length images) c.slots (λ j h. let z = inside j (contains_times j c.slots h) in let n = home.many in omega arith));
        once = distinct c.slots times_few;
        pieces = stands_from cut images 0 c.slots some_slot all_pieces piece_at;
      }

      writable : IsWritable cut
      writable = let new = rule.offered.new a lt some_slot high in
          record { url = new.fits.url; short = new.fits.short; sized = sized; version_from = (let h = high in omega arith); version_to = new.drawn }

      new_complete : IsComplete g.slot images (entry_of cut c.slots)
      new_complete = placed cut images c.slots writable (let n = home.many in omega arith) stand

    -- a closed entry, of which it is known what response its offer has
    pub spells : length g.setting.contents ≡ g.setting.slots → g.slot < 2 ^ 32 → g.setting.slots ≤ 1048576
        → ((cut : Cut) (images : List (List ℕ)) (chain : List ℕ) → IsWritable cut → length images ≤ 1048576 → Stand cut images chain → IsComplete cut.slot images (entry_of cut chain))
        → (url body : List ℕ) → IsResponse g a (side_word g.setting s Offer a) url body → SpellsResponse g s images a url body
    spells many sized few placed url body response = dite (ℕ_discrete (version_of (epoch_of (word s a)) - opening_counter g.setting) 0)
        (λ e. old (omega arith))
        (λ ne. new (omega arith))
      where
        old : version_of (epoch_of (word s a)) ≤ opening_counter g.setting → SpellsResponse g s images a url body
        old low = let o = response.old (rule.offered.old a lt some_slot low).inside in record {
          entry = o.entry;
          complete = complete_still low many o.entry o.complete o.chain_is;
          chain = sym (same_slots low many o.entry o.complete o.chain_is);
          version = version_still low many o.entry o.complete o.chain_is;
          url_is = o.url_is;
          body_is = o.body_is;
        }

        new : opening_counter g.setting < version_of (epoch_of (word s a)) → SpellsResponse g s images a url body
        new high = let o = response.new (offer_high high sized few placed) in record {
          entry = entry_of (cut high sized few placed) c.slots;
          complete = new_complete high sized few placed;
          chain = refl;
          version = refl;
          url_is = o.url_is;
          body_is = o.body_is;
        }
