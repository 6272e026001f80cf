-- What a step makes of the views of a state: one is what its pass came to have, the others are as they were, or have no tabs.
use Rattle.std.proofs.Common.{◌≡◌, ◌≢◌, ◌⊎◌, inl, inr, ⊎_elim, ℕ, zero, suc, ◌+◌, List, [], ◌∷◌, ◌++◌, length, set, drop, Bool, true, false, cond, ltb, sym, refl, subst}
use mathlib.Core.Option.{some, some-injective, some-ne-none}
use lib.ListN.{get_elem?}
use Rattle.core_model.specs.declared.moves.Move.{Move}
use Rattle.core_model.specs.declared.moves.Move.TheVariants.{Note, Learn}
use Rattle.core_model.specs.declared.view.View.{View}
use Rattle.core_model.specs.CellMoves.{free_note, note_of, spent}
use Rattle.core_model.specs.Layout.{Setting}
use Rattle.core_model.specs.State.{State}
use Rattle.core_model.specs.Steps.{after, finding, view_after}
use Rattle.core_model.proofs.Lists.{at_set}

pub at_more : {A : Type 0} → (xs : List A) (y : A) (j : ℕ) (z : A) → get_elem? (xs ++ y ∷ []) j ≡ some z
    → (get_elem? xs j ≡ some z) ⊎ (y ≡ z)
at_more [] y zero z e = inr (some-injective y z e)
at_more [] y (suc j) z e = absurd (some-ne-none z (sym e))
at_more (x ∷ xs) y zero z e = inl e
at_more (x ∷ xs) y (suc j) z e = at_more xs y j z e

module _ {X : Type 0} (k : Setting X) (s : State X) (i : ℕ) (v : View X) where
  -- a view is what the pass i came to have, or that of another one, or has no tabs
  abbrev pub ViewWas : View X → ℕ → View X → Type 0
  ViewWas u j w = ((j ≡ i) × (w ≡ u)) ⊎ (((j ≢ i) × (get_elem? s.views j ≡ some w)) ⊎ (w.tabs ≡ []))

  was_set : (u : View X) (j : ℕ) (w : View X) → get_elem? (set s.views i u) j ≡ some w → ViewWas u j w
  was_set u j w e = ⊎_elim (λ (q : (j ≡ i) × (u ≡ w)). inl (q.0, sym q.1)) (λ (q : (j ≢ i) × (get_elem? s.views j ≡ some w)). inr (inl q))
      (at_set s.views i j u w e)

  over : (p : ℕ) (u x : View X) → x.tabs ≡ [] → (j : ℕ) (w : View X) → get_elem? (set (set s.views i u) p x) j ≡ some w → ViewWas u j w
  over p u x none j w e = ⊎_elim (λ (q : (j ≡ p) × (x ≡ w)). inr (inr (subst (λ (z : View X). z.tabs ≡ []) q.1 none)))
      (λ (q : (j ≢ p) × (get_elem? (set s.views i u) j ≡ some w)). was_set u j w q.1) (at_set (set s.views i u) p j x w e)

  noted : (b : Bool) (p : ℕ) (u : View X) (j : ℕ) (w : View X)
      → get_elem? (cond b (set (set s.views i u) p (note_of v)) (set s.views i u ++ note_of v ∷ [])) j ≡ some w → ViewWas u j w
  noted true p u j w e = over p u (note_of v) refl j w e
  noted false p u j w e = ⊎_elim (λ (q : get_elem? (set s.views i u) j ≡ some w). was_set u j w q)
      (λ (q : note_of v ≡ w). inr (inr (subst (λ (z : View X). z.tabs ≡ []) q refl))) (at_more (set s.views i u) (note_of v) j w e)

  pub view_was : (m : Move) (j : ℕ) (w : View X) → get_elem? (after k s i v m).views j ≡ some w
      → ViewWas (view_after v m (finding k s v m)) j w
  view_was Note j w h = let p : ℕ = k.passes + free_note (drop k.passes s.views) in
      let u : View X = view_after v Note (finding k s v Note) in noted (ltb p (length (set s.views i u))) p u j w h
  view_was (Learn note) j w h = over (k.passes + note) (view_after v (Learn note) (finding k s v (Learn note))) spent refl j w h
  view_was m j w h = was_set (view_after v m (finding k s v m)) j w h
