-- Slots that a tab or a chain has are slots of the table, and one that a tab has is at a spot of its pass.
use Rattle.std.proofs.Common.{◌≡◌, ◌≢◌, ◌⊎◌, inl, inr, ℕ, ◌-◌, ◌<◌, ◌++◌, Contains, refl, ap, arith}
use Rattle.std.proofs.lemmas.List.Elements.{Contains-append_cases}
use mathlib.Core.Logic.{dite}
use mathlib.Core.Option.{some}
use native.Mathlib.Decide.{ℕ_discrete}
use lib.ListN.{get_elem?}
use Rattle.core_model.specs.declared.spot.Spot.{Spot}
use Rattle.core_model.specs.declared.spot.Spot.TheVariants.{Reserved, Resting}
use Rattle.core_model.specs.declared.tab.Tab.{Tab}
use Rattle.core_model.specs.declared.tab.Tab.TheVariants.{Free, Freeing, Last, Reading, Retreating, Writing}
use Rattle.core_model.specs.declared.view.View.{View}
use Rattle.core_model.specs.Chains.{no_chain}
use Rattle.core_model.specs.Layout.{Setting}
use Rattle.core_model.specs.Slots.{held_in, slot_words, standing_in, used}
use Rattle.core_model.specs.Sound.{Sound}
use Rattle.core_model.specs.Spots.{IsIn}
use Rattle.core_model.specs.State.{State, chain_of}
use Rattle.core_model.specs.Tabs.{count}
use Rattle.core_model.proofs.Lists.{at_index, le_sum_at}
use Rattle.core_model.proofs.Tabs.{contains_times}
use Rattle.core_model.proofs.Telling.{told_out}
use Rattle.core_alone.specs.Alone.{HoldsSlot}
use Rattle.core_alone.proofs.Others.{IsOthers}

module _ {X : Type 0} (k : Setting X) (s : State X) (so : Sound k s) where
  pub chained_inside : (a slot : ℕ) → a < k.anchors → Contains ((chain_of s a).slots ++ (chain_of s a).tail) slot → slot < k.slots
  chained_inside a slot lt c = dite (ℕ_discrete (k.slots - slot) 0)
      (λ e. absurd (let o = so.slots.places.taken slot in let z : used ((slot_words k s.words).taken slot) ≡ 0 = ap used
      (told_out k.slots slot _ (omega arith)) in
      let l = le_sum_at (standing_in slot) s.chains a (chain_of s a)
      (at_index s.chains a (chain_of s a) no_chain (let m = so.anchors.shaped.chains in omega arith) refl) in
      let n = counted (Contains-append_cases (chain_of s a).slots (chain_of s a).tail slot c) in omega arith))
      (λ ne. omega arith)
    where
      counted : Contains (chain_of s a).slots slot ⊎ Contains (chain_of s a).tail slot → 0 < standing_in slot (chain_of s a)
      counted (inl h) = let z = contains_times slot (chain_of s a).slots h in omega arith
      counted (inr h) = let z = contains_times slot (chain_of s a).tail h in omega arith

  module _ (j : ℕ) (u : View X) (at : get_elem? s.views j ≡ some u) where
    held_inside : (t slot : ℕ) (x : Tab X) → get_elem? u.tabs t ≡ some x → 0 < held_in slot x → slot < k.slots
    held_inside t slot x there h = dite (ℕ_discrete (k.slots - slot) 0)
        (λ e. absurd (let o = so.slots.places.taken slot in let z : used ((slot_words k s.words).taken slot) ≡ 0 = ap used
        (told_out k.slots slot _ (omega arith)) in
        let l = le_sum_at (held_in slot) u.tabs t x there in let p = le_sum_at (count (held_in slot)) s.views j u at in omega arith))
        (λ ne. omega arith)

    pub tab_slot_inside : (t slot : ℕ) (x : Tab X) → get_elem? u.tabs t ≡ some x → HoldsSlot x slot → slot < k.slots
    tab_slot_inside t slot (Writing w) there c =
        held_inside t slot (Writing w) there (let z = contains_times slot w.reserved c in omega arith)
    tab_slot_inside t slot (Freeing f) there c = held_inside t slot (Freeing f) there (let z = contains_times slot f.rest c in omega arith)
    tab_slot_inside t slot Free there c = absurd c
    tab_slot_inside t slot (Retreating a) there c = absurd c
    tab_slot_inside t slot (Reading r) there c = absurd c
    tab_slot_inside t slot (Last a) there c = absurd c

    -- its spot is one of another pass than i
    pub tab_spot : (i t slot : ℕ) (x : Tab X) → j ≢ i → get_elem? u.tabs t ≡ some x → HoldsSlot x slot
        → (y : Spot) × IsIn k s slot y × IsOthers i y
    tab_spot i t slot (Writing w) ne there c = (Reserved j t, (w, record { view = u; at = at; there = there }, c), ne)
    tab_spot i t slot (Freeing f) ne there c = (Resting j t, (f, record { view = u; at = at; there = there }, c), ne)
    tab_spot i t slot Free ne there c = absurd c
    tab_spot i t slot (Retreating a) ne there c = absurd c
    tab_spot i t slot (Reading r) ne there c = absurd c
    tab_spot i t slot (Last a) ne there c = absurd c
