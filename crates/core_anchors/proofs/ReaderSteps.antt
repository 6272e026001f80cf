-- Steps of tabs that are counted, as they are worked out.
use Rattle.std.proofs.Common.{◌≡◌, ◌<◌, ◌-◌, ◌+◌, ℕ, [], ◌∷◌, Option, Some, None, true, false, cond, length, refl, sym, ap, ◌∙◌, arith, set, sum_by, ltb}
use Rattle.std.specs.Prelude.{slice_get, slice_index, nat_lt, if◌then◌else◌}
use Rattle.std.specs.Option.{option_to_list}
use Rattle.std.proofs.lemmas.Option.{slice_get_within}
use Rattle.lock_word.specs.declared.word.Word.{Word}
use Rattle.lock_word.specs.Words.{IsInRange, word_number, epoch_number, doom_number, readers_of, epoch_of, doom_of, doomed}
use Rattle.lock_word.proofs.Dooming.{doomed_sum, readers_of-doomed}
use Rattle.lock_word.proofs.Parts.{epoch_of-word_number, doom_of-epoch_number}
use Rattle.core_model.specs.declared.adding.Addition.{Addition}
use Rattle.core_model.specs.declared.moves.Move.TheVariants as move
use Rattle.core_model.specs.declared.tab.Reader.{Reader}
use Rattle.core_model.specs.declared.tab.Tab.{Tab}
use Rattle.core_model.specs.declared.tab.Tab.TheVariants.{Free, Reading}
use Rattle.core_model.specs.declared.view.Kind.TheVariants as kind
use Rattle.core_model.specs.declared.view.Place.TheVariants.{Anchor}
use Rattle.core_model.specs.declared.view.Sight.TheVariants.{Stood}
use Rattle.core_model.specs.declared.view.View.{View}
use Rattle.core_model.specs.Layout.{anchor_index}
use Rattle.core_model.specs.Tabs.{tab_at, is_counted, is_reading, holds_turn, anchor_of, counts}
use Rattle.core_model.specs.AnchorMoves.{left_tab, entered}
use Rattle.core_change.specs.declared.change.ChainChange.TheVariants as chains
use Rattle.core_change.specs.declared.change.NotesChange.TheVariants as notes
use Rattle.core_change.specs.declared.change.TabsChange.TheVariants as tabs
use Rattle.core_table.specs.declared.content.Content.{Content}
use Rattle.core_table.specs.declared.opening.Opening.{Opening}
use Rattle.core_change.specs.declared.table.Table.{Table}
use Rattle.core_change.specs.declared.turn_change.TurnChange.TheVariants as turns
use Rattle.core_change.specs.Changed.{anchor_addition}
use Rattle.core_change.specs.Planned.{IsScene, Plans}
use Rattle.core_anchors.proofs.Anchored.{anchored}
use Rattle.core_change.proofs.Facts.{known, in_table, leaves, below, tab_is, is_used, readers_are, counts_there, own_set, counts_left}

-- the anchor is one of the table's words
pub word_there : (o : Opening) (t : Table) (v : View Content) → IsScene o t v → (a : ℕ) → a < o.anchors → anchor_index a < length t.words.items
word_there o t v scene a lt = let n = scene.sound.shaped.words in omega arith

module _ (o : Opening) (t : Table) (v : View Content) (scene : IsScene o t v) (at : ℕ) (x : Tab Content) (there : slice_get v.tabs at ≡ Some x) where
  module _ (counted : is_counted x ≡ true) (none : holds_turn x ≡ false) (a : ℕ) (same : anchor_of x ≡ a) (w : Word) (number : word_number w ≡ slice_index t.words.items (anchor_index a)) (range : IsInRange w) where
    pub some_reader : 0 < w.readers
    some_reader =
        let finds = leaves o t v scene at x there counted none in
        let is = ap (λ b. readers_of (slice_index t.words.items (anchor_index b))) same in
        omega (arith, finds.1, is, readers_are w _ range number)

    pub leave_planned : (left own seen : ℕ) (met : Option ℕ) (tab : Tab Content) (base : Addition) (index : ℕ)
        → left ≡ word_number record w { readers = w.readers - 1 }
        → own ≡ sum_by (counts a) v.tabs
        → tab ≡ left_tab a (word_number record w { readers = w.readers - 1 })
        → option_to_list met ≡ (if nat_lt (own - 1) (w.readers - 1) then a ∷ [] else [])
        → seen ≡ epoch_of left
        → base ≡ anchor_addition kind.Left a left left seen
        → index ≡ anchor_index a
        → Plans o t v (move.Leave at) record {
          answer = left;
          word = Some record { index = index; left = left };
          turn = turns.Same;
          tabs = tabs.Put at tab;
          chain = chains.Same;
          used = None;
          addition = record { item = base.item; trace = base.trace; sight = base.sight; names = base.names; learned = base.learned; deed = base.deed; met = met; drawn = base.drawn };
          notes = notes.Same;
        }
    leave_planned left own seen met tab base index left_is own_is tab_is_ met_is seen_is base_is index_is =
        let is = tab_is o t v scene at x there in
        let anchor : anchor_of (tab_at v at) ≡ a = ap anchor_of is ∙ same in
        let n : slice_index t.words.items (anchor_index (anchor_of (tab_at v at))) ≡ word_number w = ap (λ b. slice_index t.words.items (anchor_index b)) anchor ∙ sym number in
        let few = range.readers in
        let some = some_reader in
        let leaves_ : slice_index t.words.items (anchor_index (anchor_of (tab_at v at))) - 1 ≡ left = omega (arith, n, some, left_is) in
        let same_epoch : epoch_of (slice_index t.words.items (anchor_index (anchor_of (tab_at v at)))) ≡ seen = omega (arith, n, some, few, left_is, seen_is) in
        let readers : readers_of left ≡ w.readers - 1 = omega (arith, some, few, left_is) in
        let others : sum_by (counts a) (set v.tabs at (left_tab a left)) ≡ own - 1 =
        let one = ap (λ b. counts b x) (sym same) ∙ counts_there x counted in
        let own = own_set a v.tabs at x there (left_tab a left) in
        let none_ = counts_left a a left in
        omega (arith, one, own, none_, own_is) in
        let here : sum_by (counts (anchor_of (tab_at v at))) (set v.tabs at (left_tab (anchor_of (tab_at v at)) (slice_index t.words.items (anchor_index (anchor_of (tab_at v at))) - 1))) ≡ own - 1 =
        (λ j. sum_by (counts (anchor j)) (set v.tabs at (left_tab {X = Content} (anchor j) (leaves_ j)))) ∙ others in
        let left_readers = ap readers_of leaves_ ∙ readers in
        record {
          allowed = (below o t v scene at x there, (ap is_counted is ∙ counted), (ap holds_turn is ∙ none));
          answers = sym leaves_;
          matches = anchored o t v (move.Leave at) a left left seen kind.Left _ _ _ _ _ base index base_is index_is
              record {
                at = ap (λ b. Some (Anchor b)) anchor;
                leaves = leaves_;
                item = λ j. record { kind = kind.Left; at = anchor j; found = leaves_ j };
                sees = λ j. Stood (anchor j) (same_epoch j) ∷ [];
                places = refl;
                views = λ i. refl;
              }
              (ap (λ (y : Tab Content). set v.tabs at y) (tab_is_ ∙ sym (λ j. left_tab {X = Content} (anchor j) ((leaves_ ∙ left_is) j))))
              refl
              (ap (λ (b : Addition). option_to_list b.deed) base_is)
              (met_is ∙ sym (λ j. cond (ltb (here j) (left_readers j)) (anchor j ∷ []) []))
              refl;
          word = let there = word_there o t v scene a (let lt = in_table o t v scene at x there (is_used x counted) in omega (arith, same, lt)) in omega (arith, index_is, there);
          turn = tt;
          tabs = slice_get_within v.tabs at x there;
          chain = tt;
        }

module _ (o : Opening) (t : Table) (v : View Content) (scene : IsScene o t v) (a : ℕ) (within : a < o.anchors) (w : Word) (number : word_number w ≡ slice_index t.words.items (anchor_index a)) (range : IsInRange w) where
  module _ (at : ℕ) (there : slice_get v.tabs at ≡ Some Free) where
    pub room_for_one : w.readers < 65535
    room_for_one =
        let few = (known o t v (move.Enter at a) scene (within, below o t v scene at Free there, tab_is o t v scene at Free there)).few in
        omega (arith, few, readers_are w _ range number)

    pub enter_planned : (found left own seen after : ℕ) (met : Option ℕ) (tab : Tab Content) (base : Addition) (index : ℕ)
        → found ≡ word_number w
        → left ≡ word_number record w { readers = w.readers + 1 }
        → own ≡ sum_by (counts a) v.tabs
        → tab ≡ entered a (epoch_number w.epoch)
        → option_to_list met ≡ (if nat_lt own w.readers then a ∷ [] else [])
        → seen ≡ epoch_of found
        → after ≡ epoch_of left
        → base ≡ anchor_addition kind.Entered a found left seen
        → index ≡ anchor_index a
        → Plans o t v (move.Enter at a) record {
          answer = found;
          word = Some record { index = index; left = left };
          turn = turns.Same;
          tabs = tabs.Put at tab;
          chain = chains.Same;
          used = None;
          addition = record {
            item = base.item;
            trace = base.trace;
            sight = base.sight;
            names = base.names;
            learned = base.learned;
            deed = Some record { pass = v.pass; kind = kind.Entered; anchor = a; epoch = after; was_idle = false };
            met = met;
            drawn = base.drawn;
          };
          notes = notes.Same;
        }
    enter_planned found left own seen after met tab base index found_is left_is own_is tab_is_ met_is seen_is after_is base_is index_is =
        let n : slice_index t.words.items (anchor_index a) ≡ found = sym number ∙ sym found_is in
        let leaves_ : slice_index t.words.items (anchor_index a) + 1 ≡ left = omega (arith, number, left_is) in
        let few = range.readers in
        let epoch : epoch_number w.epoch ≡ epoch_of (slice_index t.words.items (anchor_index a)) = sym (epoch_of-word_number w few) ∙ ap epoch_of number in
        let readers : readers_of (slice_index t.words.items (anchor_index a)) ≡ w.readers = readers_are w _ range number in
        record {
          allowed = (within, below o t v scene at Free there, tab_is o t v scene at Free there);
          answers = sym n;
          matches = anchored o t v (move.Enter at a) a found left seen kind.Entered _ _ _ _ _ base index base_is index_is
              record {
                at = refl;
                leaves = leaves_;
                item = λ j. record { kind = kind.Entered; at = a; found = n j };
                sees = λ j. Stood a ((ap epoch_of n ∙ sym seen_is) j) ∷ [];
                places = refl;
                views = λ i. refl;
              }
              (ap (λ (y : Tab Content). set v.tabs at y) (tab_is_ ∙ (λ j. entered {X = Content} a (epoch j))))
              refl
              (λ j. record { pass = v.pass; kind = kind.Entered; anchor = a; epoch = (after_is ∙ sym (ap epoch_of leaves_)) j; was_idle = false } ∷ [])
              (met_is ∙ (λ j. cond (ltb (own_is j) (sym readers j)) (a ∷ []) []))
              refl;
          word = let there = word_there o t v scene a within in omega (arith, index_is, there);
          turn = tt;
          tabs = slice_get_within v.tabs at Free there;
          chain = tt;
        }

  module _ (at : ℕ) (r : Reader Content) (there : slice_get v.tabs at ≡ Some (Reading r)) (same : r.anchor ≡ a) where
    pub doom_planned : (left own seen : ℕ) (met : Option ℕ) (base : Addition) (index : ℕ)
        → left ≡ word_number record w { epoch = record w.epoch { doom = true } }
        → own ≡ sum_by (counts a) v.tabs
        → option_to_list met ≡ (if nat_lt own w.readers then a ∷ [] else [])
        → seen ≡ epoch_of left
        → base ≡ anchor_addition kind.Doomed a left left seen
        → index ≡ anchor_index a
        → Plans o t v (move.Doom at) record {
          answer = left;
          word = Some record { index = index; left = left };
          turn = turns.Same;
          tabs = tabs.Same;
          chain = chains.Same;
          used = None;
          addition = record {
            item = base.item;
            trace = base.trace;
            sight = base.sight;
            names = base.names;
            learned = base.learned;
            deed = Some record { pass = v.pass; kind = kind.Doomed; anchor = a; epoch = seen; was_idle = false };
            met = met;
            drawn = base.drawn;
          };
          notes = notes.Same;
        }
    doom_planned left own seen met base index left_is own_is met_is seen_is base_is index_is =
        let is = tab_is o t v scene at (Reading r) there in
        let anchor : anchor_of (tab_at v at) ≡ a = ap anchor_of is ∙ same in
        let n : slice_index t.words.items (anchor_index (anchor_of (tab_at v at))) ≡ word_number w = ap (λ b. slice_index t.words.items (anchor_index b)) anchor ∙ sym number in
        let few = range.readers in
        let doom = doom_of-epoch_number w.epoch in
        let epoch = epoch_of-word_number w few in
        let sum = doomed_sum (word_number w) in
        let once : doom_of (epoch_of (word_number w)) ≡ doom_number w.epoch.doom = ap doom_of epoch ∙ doom in
        let leaves_ : doomed (slice_index t.words.items (anchor_index (anchor_of (tab_at v at)))) ≡ left = ap doomed n ∙ omega (arith, sum, once, left_is) in
        let readers : readers_of left ≡ w.readers = ap readers_of (sym leaves_ ∙ ap doomed n) ∙ readers_of-doomed (word_number w) ∙ omega (arith, few) in
        record {
          allowed = (below o t v scene at (Reading r) there, ap is_reading is);
          answers = sym leaves_;
          matches = anchored o t v (move.Doom at) a left left seen kind.Doomed _ _ _ _ _ base index base_is index_is
              record {
                at = ap (λ b. Some (Anchor b)) anchor;
                leaves = leaves_;
                item = λ j. record { kind = kind.Doomed; at = anchor j; found = leaves_ j };
                sees = λ j. Stood (anchor j) ((ap epoch_of leaves_ ∙ sym seen_is) j) ∷ [];
                places = refl;
                views = λ i. refl;
              }
              refl
              refl
              (sym (λ j. record { pass = v.pass; kind = kind.Doomed; anchor = anchor j; epoch = (ap epoch_of leaves_ ∙ sym seen_is) j; was_idle = false } ∷ []))
              (met_is ∙ sym (λ j. cond (ltb ((ap (λ b. sum_by (counts b) v.tabs) anchor ∙ sym own_is) j) ((ap readers_of leaves_ ∙ readers) j)) (anchor j ∷ []) []))
              refl;
          word = let there = word_there o t v scene a within in omega (arith, index_is, there);
          turn = tt;
          tabs = tt;
          chain = tt;
        }
