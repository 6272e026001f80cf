-- Steps on the words beside an anchor, as they are worked out.
use Rattle.std.proofs.Common.{◌≡◌, ◌<◌, ◌≤◌, ℕ, Option, Some, None, false, true, length, refl, sym, ap, ◌∙◌, arith, set, subst}
use Rattle.std.specs.Prelude.{slice_get, slice_index}
use Rattle.std.specs.Option.{option_to_list}
use Rattle.std.proofs.lemmas.Option.{slice_get_within}
use Rattle.core_model.specs.declared.adding.Addition.{Addition}
use Rattle.core_model.specs.declared.moves.Move.TheVariants as move
use Rattle.core_model.specs.declared.moves.Side.{Side}
use Rattle.core_model.specs.declared.moves.Side.TheVariants.{Key0, Key1, Offer, Start}
use Rattle.core_model.specs.declared.tab.Writer.{Writer}
use Rattle.core_model.specs.declared.tab.Tab.{Tab}
use Rattle.core_model.specs.declared.tab.Tab.TheVariants.{Free, Retreating, Reading, Writing, Last, Freeing}
use Rattle.core_model.specs.declared.view.Kind.TheVariants as kind
use Rattle.core_model.specs.declared.view.Sight.{Sight}
use Rattle.core_model.specs.declared.view.Place.TheVariants.{Beside}
use Rattle.core_model.specs.declared.view.View.{View}
use Rattle.core_model.specs.Layout.{index, side_index}
use Rattle.core_model.specs.Tabs.{OfWriter, tab_at, inner, anchor_of, is_free, is_reading, is_using, InnerIsFree}
use Rattle.core_model.specs.SlotMoves.{MayStore, loads, loaded, stores}
use Rattle.core_change.specs.declared.change.ChainChange.TheVariants as chains
use Rattle.core_change.specs.declared.change.NotesChange.TheVariants as notes
use Rattle.core_change.specs.declared.change.TabsChange.TheVariants as tabs
use Rattle.core_change.specs.declared.tab_change.TabChange.TheVariants.{Learns, Stores}
use Rattle.core_table.specs.declared.content.Content.{Content}
use Rattle.core_table.specs.declared.opening.Opening.{Opening}
use Rattle.core_change.specs.declared.table.Table.{Table}
use Rattle.core_change.specs.declared.turn_change.TurnChange.TheVariants as turns
use Rattle.core_table.specs.Inside.{setting}
use Rattle.core_change.specs.Changed.{word_addition}
use Rattle.core_change.specs.Planned.{IsScene, Plans}
use Rattle.core_change.specs.Tabs.{changed_tab}
use Rattle.core_change.proofs.Facts.{below, in_table, tab_is}
use Rattle.core_change.proofs.Slots.{start_small}
use Rattle.core_change.proofs.Worded.{worded}

-- the word beside an anchor is one of the table's
pub side_there : (o : Opening) (t : Table) (v : View Content) → IsScene o t v → (side : Side) (a : ℕ) → a < o.anchors → index (setting o) (Beside side a) < length t.words.items
side_there o t v scene Key0 a lt = let n = scene.sound.shaped.words in omega arith
side_there o t v scene Key1 a lt = let n = scene.sound.shaped.words in omega arith
side_there o t v scene Offer a lt = let n = scene.sound.shaped.words in omega arith
side_there o t v scene Start a lt = let n = scene.sound.shaped.words in omega arith

stores_so : (x : Tab Content) (side : Side) (value : ℕ) → changed_tab x (Stores side value) ≡ stores x side value
stores_so Free side value = refl
stores_so (Retreating a) side value = refl
stores_so (Reading r) side value = refl
stores_so (Writing w) side value = refl
stores_so (Last a) side value = refl
stores_so (Freeing f) side value = refl

pub in_use : (x : Tab Content) → is_using x ≡ true → is_free x ≡ false
in_use Free h = cc
in_use (Retreating a) h = refl
in_use (Reading r) h = refl
in_use (Writing w) h = refl
in_use (Last a) h = refl
in_use (Freeing f) h = refl

module _ (o : Opening) (t : Table) (v : View Content) (scene : IsScene o t v) (at : ℕ) where
  -- a tab's word is one of the table's
  pub side_of_tab : (x : Tab Content) → slice_get v.tabs at ≡ Some x → is_using x ≡ true → (side : Side) (a word : ℕ) → a ≡ anchor_of x → word ≡ index (setting o) (Beside side a) → word < length t.words.items
  side_of_tab x there uses side a word a_is word_is = let lt = side_there o t v scene side a (let w = in_table o t v scene at x there (in_use x uses) in omega (arith, w, a_is)) in omega (arith, lt, word_is)

  -- what a reading tab finds in its Start word
  pub start_found : (x : Tab Content) → slice_get v.tabs at ≡ Some x → is_reading x ≡ true → (side : Side) → side ≡ Start → (a word found : ℕ)
      → a ≡ anchor_of x → word ≡ index (setting o) (Beside side a) → found ≡ slice_index t.words.items word → found ≤ o.slots
  start_found (Reading r) there reading side start a word found a_is word_is found_is =
      let small = start_small o t v scene at r there in
      let at_word : word ≡ index (setting o) (Beside Start r.anchor) = word_is ∙ (λ j. index (setting o) (Beside (start j) (a_is j))) in
      let is = found_is ∙ ap (λ i. slice_index t.words.items i) at_word in
      omega (arith, small, is)
  start_found Free there reading side start a word found a_is word_is found_is = cc
  start_found (Retreating b) there reading side start a word found a_is word_is found_is = cc
  start_found (Writing w) there reading side start a word found a_is word_is found_is = cc
  start_found (Last b) there reading side start a word found a_is word_is found_is = cc
  start_found (Freeing f) there reading side start a word found a_is word_is found_is = cc

  pub load_planned : (x : Tab Content) → slice_get v.tabs at ≡ Some x → is_using x ≡ true → (side : Side) (a word n found : ℕ) (slot : Option ℕ) (sight : Option Sight)
      → a ≡ anchor_of x → word ≡ index (setting o) (Beside side a) → n ≡ side_index side → found ≡ slice_index t.words.items word
      → changed_tab x (Learns slot) ≡ loaded x side found → option_to_list sight ≡ loads x side found
      → (base : Addition) → base ≡ word_addition kind.Loaded (Beside side a) n found found sight
      → Plans o t v (move.LoadSide at side) record {
        answer = found;
        word = Some record { index = word; left = found };
        turn = turns.Same;
        tabs = tabs.Becomes at (Learns slot);
        chain = chains.Same;
        used = None;
        addition = base;
        notes = notes.Same;
      }
  load_planned x there uses side a word n found slot sight a_is word_is n_is found_is learns sees base base_is =
      let is = tab_is o t v scene at x there in
      let anchor : anchor_of (tab_at v at) ≡ a = ap anchor_of is ∙ sym a_is in
      let finds : slice_index t.words.items (index (setting o) (Beside side (anchor_of (tab_at v at)))) ≡ found =
      ap (λ b. slice_index t.words.items (index (setting o) (Beside side b))) anchor ∙ ap (λ i. slice_index t.words.items i) (sym word_is) ∙ sym found_is in
      record {
        allowed = (below o t v scene at x there, ap is_using is ∙ uses);
        answers = sym finds;
        matches = worded o t v (move.LoadSide at side) (Beside side a) n found found kind.Loaded sight found word (tabs.Becomes at (Learns slot)) base base_is word_is
            record {
              on = ap (λ b. Some (Beside side b)) anchor;
              leaves = finds;
              item = λ j. record { kind = kind.Loaded; at = sym n_is j; found = finds j };
              sees = (λ j. loads (is j) side (finds j)) ∙ sym sees;
              places = refl;
              views = λ i. refl;
              held = refl;
              deeds = refl;
              met = refl;
              chains = refl;
            }
            (ap (λ (y : Tab Content). set v.tabs at y) (ap (λ (y : Tab Content). changed_tab y (Learns slot)) is ∙ learns ∙ sym (λ j. loaded (is j) side (finds j))));
        word = side_of_tab x there uses side a word a_is word_is;
        turn = tt;
        tabs = slice_get_within v.tabs at x there;
        chain = tt;
      }

  pub store_planned : (w : Writer Content) → slice_get v.tabs at ≡ Some (Writing w) → at < inner → InnerIsFree v → w.is_appending ≡ false → (side : Side) (value : ℕ) → MayStore (setting o) w side value
      → (word n : ℕ) → word ≡ index (setting o) (Beside side w.anchor) → n ≡ side_index side
      → (base : Addition) → base ≡ word_addition kind.Stored (Beside side w.anchor) n 0 value None
      → Plans o t v (move.StoreSide at side value) record {
        answer = 0;
        word = Some record { index = word; left = value };
        turn = turns.Same;
        tabs = tabs.Becomes at (Stores side value);
        chain = chains.Same;
        used = None;
        addition = base;
        notes = notes.Same;
      }
  store_planned w there below free taken side value may word n word_is n_is base base_is =
      let is = tab_is o t v scene at (Writing w) there in
      record {
        allowed = (below, free, subst (OfWriter (λ x. (x.is_appending ≡ false) × MayStore (setting o) x side value)) (sym is) (taken, may));
        answers = refl;
        matches = worded o t v (move.StoreSide at side value) (Beside side w.anchor) n 0 value kind.Stored None 0 word (tabs.Becomes at (Stores side value)) base base_is word_is
            record {
              on = ap (λ (x : Tab Content). Some (Beside side (anchor_of x))) is;
              leaves = refl;
              item = λ j. record { kind = kind.Stored; at = sym n_is j; found = 0 };
              sees = refl;
              places = refl;
              views = λ i. refl;
              held = refl;
              deeds = refl;
              met = refl;
              chains = refl;
            }
            (ap (λ (y : Tab Content). set v.tabs at y) (stores_so (tab_at v at) side value));
        word = let lt = side_there o t v scene side w.anchor (in_table o t v scene at (Writing w) there refl) in omega (arith, lt, word_is);
        turn = tt;
        tabs = slice_get_within v.tabs at (Writing w) there;
        chain = tt;
      }
