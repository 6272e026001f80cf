-- An entry that a pass found given up is so still while a tab reads it, and where the pass found that it goes no further, it does not.
use Rattle.std.proofs.Common.{◌≡◌, ◌⊎◌, inl, inr, ⊎_elim, ℕ, ◌++◌, subst, Contains}
use Rattle.std.proofs.lemmas.List.Elements.{Contains-append_cases}
use mathlib.Core.Option.{some}
use lib.ListN.{get_elem?}
use Rattle.core_model.specs.declared.moves.Move.TheVariants.{GetLink}
use Rattle.core_model.specs.declared.tab.Reader.{Reader}
use Rattle.core_model.specs.declared.tab.Tab.{Tab}
use Rattle.core_model.specs.declared.tab.Tab.TheVariants.{Reading}
use Rattle.core_model.specs.declared.view.Place.TheVariants.{Link}
use Rattle.core_model.specs.declared.view.View.{View}
use Rattle.core_model.specs.Chains.{slots_of_link}
use Rattle.core_model.specs.Layout.{Setting, word_in}
use Rattle.core_model.specs.SlotMoves.{IsFront, IsNext}
use Rattle.core_model.specs.Sound.{Sound}
use Rattle.core_model.specs.State.{State, chain_of, word}
use Rattle.core_model.specs.Steps.{number_found}
use Rattle.core_model.specs.Table.{MayStep}
use Rattle.core_model.specs.Tabs.{OfFreer, OfReader, tab_at}
use Rattle.core_model.specs.Told.{LinkFound}
use Rattle.core_model.proofs.ReservesKept.{tab_was}
use Rattle.core_model.proofs.Tells.{tells}
use Rattle.core_halts.specs.Halts.{FoundEnd, HaltsStand, HasHalted, SaysHalted}
use Rattle.core_halts.proofs.Links.{at_front, link_unwritten}
use Rattle.core_halts.proofs.Seeing.{inside, stays_halted, was_halted}
use Rattle.core_halts.proofs.Trails.{end_halted}

module _ {X : Type 0} (k : Setting X) (s : State X) (so : Sound k s) (h : HaltsStand s) (i : ℕ) (v : View X)
    (at : get_elem? s.views i ≡ some v) where
  pub reads_halted : (t : ℕ) (r : Reader X) → get_elem? v.tabs t ≡ some (Reading r) → HasHalted r.anchor r.version v.trail
      → SaysHalted r.version (word s r.anchor)
  reads_halted t r there f = let st = so.anchors.tabs i v at t (Reading r) there in
      stays_halted k s so r.anchor r.version (was_halted s h i v at r.anchor r.version f) st.1.version_is st.1.to

  module _ (t slot : ℕ) (may : MayStep k s v (GetLink t slot)) (r : Reader X) (is : tab_at v t ≡ Reading r) where
    there : get_elem? v.tabs t ≡ some (Reading r)
    there = tab_was k s i v so.anchors so.slots at may.pass t (Reading r) may.allowed.0 is

    next : IsNext s slot r
    next = ⊎_elim (λ (z : IsNext s slot r). z) (λ (z : ⊥). absurd z)
        (subst (λ (x : Tab X). OfReader (IsNext s slot) x ⊎ OfFreer (IsFront slot) x) is may.allowed.1)

    told_link : LinkFound s (Reading r) (number_found k s v (GetLink t slot))
    told_link = subst (λ (x : Tab X). LinkFound s x (number_found k s v (GetLink t slot))) is
        (tells k s i v (GetLink t slot) so at may).slots

    pub reads_no_link : FoundEnd v r.anchor r.version slot → number_found k s v (GetLink t slot) ≡ 0
    reads_no_link f = by_place told_link
      where
        by_place : LinkFound s (Reading r) (number_found k s v (GetLink t slot)) → number_found k s v (GetLink t slot) ≡ 0
        by_place (inl q) = absurd (h.ends i v at r.anchor r.version slot
            (reads_halted t r there (end_halted r.anchor r.version slot v.trail f)) f
            (at_front (chain_of s r.anchor).slots (slots_of_link (chain_of s r.anchor).end) r.place slot q.0 next))
        by_place (inr q) = q.1

  -- whichever tab looks
  pub no_link : (a version slot : ℕ) → SaysHalted version (word s a) → FoundEnd v a version slot
      → Contains ((chain_of s a).slots ++ (chain_of s a).tail) slot → word_in k s.words (Link slot) ≡ 0
  no_link a version slot says f c = ⊎_elim
      (λ (d : Contains (chain_of s a).slots slot). absurd (h.ends i v at a version slot says f d))
      (λ (d : Contains (chain_of s a).tail slot). link_unwritten k s so a
      (inside k s so a version (was_halted s h i v at a version (end_halted a version slot v.trail f))) slot d)
      (Contains-append_cases (chain_of s a).slots (chain_of s a).tail slot c)
