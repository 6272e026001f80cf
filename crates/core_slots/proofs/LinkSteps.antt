-- Steps on the links of slots, as they are worked out.
use Rattle.std.proofs.Common.{◌≡◌, ◌≢◌, ◌⊎◌, inl, inr, ⊎_elim, ◌↔◌, ◌<◌, ◌≤◌, ◌+◌, ℕ, zero, suc, List, [], ◌∷◌, ◌++◌, Option, Some, None, true, false, length, get_or, eqb, eq-eqb, refl, sym, ap, ◌∙◌, arith, set, subst, IsTrue}
use Rattle.std.specs.Prelude.{slice_get, slice_index}
use Rattle.std.specs.Option.{option_to_list}
use Rattle.std.proofs.lemmas.Bool.{eqb-true}
use Rattle.std.proofs.lemmas.Option.{slice_get_within}
use mathlib.Core.Option.{some, some-injective, some-ne-none}
use lib.ListN.{get_elem?}
use Rattle.link_word.specs.declared.link.Link.{Link}
use Rattle.link_word.specs.declared.link.Link.TheVariants.{NotWritten, Last as LastLink, Next}
use Rattle.core_model.specs.declared.adding.Addition.{Addition}
use Rattle.core_model.specs.declared.chain.Chain.{Chain}
use Rattle.core_model.specs.declared.moves.Move.TheVariants as move
use Rattle.core_model.specs.declared.tab.Reader.{Reader}
use Rattle.core_model.specs.declared.tab.Tab.{Tab}
use Rattle.core_model.specs.declared.tab.Tab.TheVariants.{Free, Retreating, Reading, Writing, Last, Freeing}
use Rattle.core_model.specs.declared.view.Kind.TheVariants as kind
use Rattle.core_model.specs.declared.view.Place.TheVariants.{Link as LinkWord}
use Rattle.core_model.specs.declared.view.Sight.{Sight}
use Rattle.core_model.specs.declared.view.View.{View}
use Rattle.core_model.specs.Chains.{times, slots_of_link}
use Rattle.core_model.specs.Told.{LinkFound}
use Rattle.core_model.specs.Layout.{index}
use Rattle.core_model.specs.Tabs.{OfReader, OfFreer, anchor_of, is_free, is_reading}
use Rattle.core_model.proofs.FollowsKept.{followed}
use Rattle.core_model.proofs.ReservesKept.{held_slot}
use Rattle.core_model.proofs.SlotFinds.{slot_finds}
use Rattle.core_model.proofs.Spelling.{at_longer, one_same}
use Rattle.core_model.specs.Table.{Allowed}
use Rattle.core_model.specs.SlotMoves.{IsNext, IsFront, follows, looks}
use Rattle.core_change.specs.declared.change.ChainChange.TheVariants as chains
use Rattle.core_change.specs.declared.change.NotesChange.TheVariants as notes
use Rattle.core_change.specs.declared.change.TabsChange.TheVariants as tabs
use Rattle.core_change.specs.declared.tab_change.TabChange.{TabChange}
use Rattle.core_table.specs.declared.content.Content.{Content}
use Rattle.core_table.specs.declared.opening.Opening.{Opening}
use Rattle.core_change.specs.declared.table.Table.{Table}
use Rattle.core_change.specs.declared.turn_change.TurnChange.TheVariants as turns
use Rattle.core_change.specs.Changed.{word_addition}
use Rattle.core_table.specs.Inside.{setting}
use Rattle.core_change.specs.Inside.{state}
use Rattle.core_change.specs.Planned.{IsScene, Plans}
use Rattle.core_change.specs.Tabs.{changed_tab}
use Rattle.core_change.proofs.Facts.{below, in_table, tab_is}
use Rattle.core_table.proofs.Lists.{at_index, at_slice}
use Rattle.core_change.proofs.Slots.{link_below, place_below}
use Rattle.core_change.proofs.Worded.{worded}

-- The slot at a place of a chain: published, behind the published ones, or none.

abbrev pub stands_at : Chain → ℕ → ℕ → Type 0
stands_at c place slot = get_elem? (c.slots ++ slots_of_link c.end) place ≡ some slot

behind : (xs ys : List ℕ) → get_elem? (xs ++ ys) (length xs) ≡ get_elem? ys 0
behind [] ys = refl
behind (x ∷ xs) ys = behind xs ys

beyond : (xs ys : List ℕ) (p : ℕ) → length (xs ++ ys) ≤ p → (slot : ℕ) → get_elem? (xs ++ ys) p ≡ some slot → ⊥
beyond xs ys p far slot e = past (xs ++ ys) p far e
  where
    past : (zs : List ℕ) (p : ℕ) → length zs ≤ p → get_elem? zs p ≡ some slot → ⊥
    past [] p far e = some-ne-none slot (sym e)
    past (z ∷ zs) zero far e = absurd (omega arith)
    past (z ∷ zs) (suc p) far e = past zs p (omega arith) e

one_named : (xs : List ℕ) (e : Link) → length (xs ++ slots_of_link e) ≤ length xs + 1
one_named [] NotWritten = omega arith
one_named [] LastLink = omega arith
one_named [] (Next j) = omega arith
one_named (x ∷ xs) e = let h = one_named xs e in omega arith

first_named : (e : Link) (slot : ℕ) → (e ≡ Next slot) ↔ (get_elem? (slots_of_link e) 0 ≡ some slot)
first_named NotWritten slot = ((λ h. cc), (λ h. absurd (some-ne-none slot (sym h))))
first_named LastLink slot = ((λ h. cc), (λ h. absurd (some-ne-none slot (sym h))))
first_named (Next j) slot = ((λ h. ap (λ (l : Link). get_elem? (slots_of_link l) 0) h), (λ h. ap Next (some-injective j slot h)))

module _ (c d : Chain) (same : c ≡ d) (xs : List ℕ) (slots : xs ≡ c.slots) (place slot : ℕ) where
  slots_are : xs ≡ d.slots
  slots_are = slots ∙ ap (λ (l : Chain). l.slots) same

  pub next_inside : (y : ℕ) → place < length xs → ((z : ℕ) → y ≡ get_or xs place z) → (IsTrue (eqb y slot) → stands_at d place slot) × (stands_at d place slot → IsTrue (eqb y slot))
  next_inside y lt is =
      let there : stands_at d place y = subst (λ (zs : List ℕ). get_elem? (zs ++ slots_of_link d.end) place ≡ some y) slots_are (at_longer xs (slots_of_link d.end) place y (at_index xs place y y lt (sym (is y)))) in
      ((λ h. there ∙ ap some (eqb-true y slot h)), (λ h. eq-eqb y slot (some-injective y slot (sym there ∙ h))))

  pub next_behind : place ≡ length xs → (b : _) → (IsTrue b ↔ (c.end ≡ Next slot)) → (IsTrue b → stands_at d place slot) × (stands_at d place slot → IsTrue b)
  next_behind here b names =
      let is : get_elem? (d.slots ++ slots_of_link d.end) place ≡ get_elem? (slots_of_link c.end) 0 =
      (λ j. get_elem? (sym slots_are j ++ slots_of_link (sym same j).end) (here j)) ∙ behind xs (slots_of_link c.end) in
      ((λ h. is ∙ (first_named c.end slot).0 (names.0 h)), (λ h. names.1 ((first_named c.end slot).1 (sym is ∙ h))))

  pub next_beyond : length xs ≤ place → place ≢ length xs → (IsTrue (eqb place (length xs)) → stands_at d place slot) × (stands_at d place slot → IsTrue (eqb place (length xs)))
  next_beyond far off = (
    (λ h. absurd (off (eqb-true place (length xs) h))),
    (λ h. absurd (beyond d.slots (slots_of_link d.end) place (let few = one_named d.slots d.end in let same_length = ap (λ (zs : List ℕ). length zs) slots_are in let far_ : length xs < place = further far off in omega (arith, few, same_length, far_)) slot h)),
  )
    where
      further : length xs ≤ place → place ≢ length xs → length xs < place
      further far off = omega arith

-- A tab that may look at a link.

abbrev pub MayLook : Table → ℕ → Tab Content → Type 0
MayLook t slot x = OfReader (IsNext (state t) slot) x ⊎ OfFreer (IsFront slot) x

module _ (o : Opening) (t : Table) (v : View Content) (scene : IsScene o t v) (at : ℕ) (x : Tab Content) (there : slice_get v.tabs at ≡ Some x) where
  pub chain_there : is_reading x ≡ true → anchor_of x < length t.chains.items
  chain_there reading = let lt = in_table o t v scene at x there (reads x reading) in let many = scene.sound.shaped.chains in omega (arith, lt, many)
    where
      reads : (y : Tab Content) → is_reading y ≡ true → is_free y ≡ false
      reads Free h = cc
      reads (Retreating a) h = cc
      reads (Reading r) h = refl
      reads (Writing w) h = cc
      reads (Last a) h = cc
      reads (Freeing f) h = cc

  module _ (slot : ℕ) (may : MayLook t slot x) where
    -- the slot is one of the table
    pub slot_inside : slot < o.slots
    slot_inside = by_tab x (at_slice v.tabs at x there) may
      where
        by_tab : (y : Tab Content) → get_elem? v.tabs at ≡ some y → MayLook t slot y → slot < o.slots
        by_tab (Reading r) was (inl next) = (followed (setting o) (state t) scene.number v scene.sound scene.slots scene.at scene.pass at slot r was next).inside
        by_tab (Reading r) was (inr h) = absurd h
        by_tab (Freeing f) was (inl h) = absurd h
        by_tab (Freeing f) was (inr front) = held_slot (setting o) (state t) scene.number v scene.sound scene.slots scene.at scene.pass slot at (Freeing f) was
            (let first = ap (times slot) front in let same = one_same slot in omega arith)
        by_tab Free was h = absurd (⊎_elim (λ (z : ⊥). z) (λ (z : ⊥). z) h)
        by_tab (Retreating a) was h = absurd (⊎_elim (λ (z : ⊥). z) (λ (z : ⊥). z) h)
        by_tab (Writing w) was h = absurd (⊎_elim (λ (z : ⊥). z) (λ (z : ⊥). z) h)
        by_tab (Last a) was h = absurd (⊎_elim (λ (z : ⊥). z) (λ (z : ⊥). z) h)

    allowed : Allowed (setting o) (state t) v (move.GetLink at slot)
    allowed = (below o t v scene at x there, subst (MayLook t slot) (sym (tab_is o t v scene at x there)) may)

    module _ (place found : ℕ) (place_is : place ≡ index (setting o) (LinkWord slot)) (found_is : found ≡ slice_index t.words.items place) where
      pub link_there : place < length t.words.items
      link_there = let lt = slot_inside in let n = scene.sound.shaped.words in omega (arith, lt, n, place_is)

      finds : slice_index t.words.items (index (setting o) (LinkWord slot)) ≡ found
      finds = ap (λ i. slice_index t.words.items i) (sym place_is) ∙ sym found_is

      says : LinkFound (state t) x found
      says = let k = slot_finds (setting o) (state t) scene.number v (move.GetLink at slot) scene.sound scene.slots scene.at record { pass = scene.pass; allowed = allowed } in
          subst (LinkFound (state t) x) finds (subst (λ (y : Tab Content). LinkFound (state t) y (slice_index t.words.items (index (setting o) (LinkWord slot)))) (tab_is o t v scene at x there) k)

      pub link_small : is_reading x ≡ true → found ≤ o.slots + 1
      link_small reading = by_tab x there says reading
        where
          by_tab : (y : Tab Content) → slice_get v.tabs at ≡ Some y → LinkFound (state t) y found → is_reading y ≡ true → found ≤ o.slots + 1
          by_tab (Reading r) is s h = link_below o t v scene at r is found s
          by_tab Free is s h = cc
          by_tab (Retreating a) is s h = cc
          by_tab (Writing w) is s h = cc
          by_tab (Last a) is s h = cc
          by_tab (Freeing f) is s h = cc

      pub place_small : (r : Reader Content) → x ≡ Reading r → found ≢ 0 → r.place < o.slots
      place_small r is some_ = place_below o t v scene at r (there ∙ ap (λ (y : Tab Content). Some y) is) found (subst (λ (y : Tab Content). LinkFound (state t) y found) is says) some_

      pub look_planned : (change : TabChange) (sight : Option Sight) → changed_tab x change ≡ looks x found → option_to_list sight ≡ follows x found
          → (base : Addition) → base ≡ word_addition kind.Followed (LinkWord slot) slot found found sight
          → Plans o t v (move.GetLink at slot) record {
            answer = found;
            word = Some record { index = place; left = found };
            turn = turns.Same;
            tabs = tabs.Becomes at change;
            chain = chains.Same;
            used = None;
            addition = base;
            notes = notes.Same;
          }
      look_planned change sight becomes sees base base_is =
          let is = tab_is o t v scene at x there in
          record {
            allowed = allowed;
            answers = sym finds;
            matches = worded o t v (move.GetLink at slot) (LinkWord slot) slot found found kind.Followed sight found place (tabs.Becomes at change) base base_is place_is
                record {
                  on = refl;
                  leaves = finds;
                  item = λ j. record { kind = kind.Followed; at = slot; found = finds j };
                  sees = (λ j. follows (is j) (finds j)) ∙ sym sees;
                  places = refl;
                  views = λ i. refl;
                  held = refl;
                  deeds = refl;
                  met = refl;
                  chains = refl;
                }
                (ap (λ (y : Tab Content). set v.tabs at y) (ap (λ (y : Tab Content). changed_tab y change) is ∙ becomes ∙ sym (λ j. looks (is j) (finds j))));
            word = link_there;
            turn = tt;
            tabs = slice_get_within v.tabs at x there;
            chain = tt;
          }
