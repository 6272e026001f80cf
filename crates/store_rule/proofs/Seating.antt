-- What a step of a seat makes of the views that the seats have.
use Rattle.std.proofs.Common.{◌≡◌, ◌≢◌, ⊎_elim, inl, inr, ◌⊎◌, ℕ, zero, suc, List, [], ◌∷◌, set, sym, refl, ap, ◌∙◌, subst}
use mathlib.Core.Option.{some, some-injective, some-ne-none}
use lib.ListN.{get_elem?}
use Rattle.core_model.specs.declared.view.View.{View}
use Rattle.core_model.proofs.Lists.{at_set, at_length, set_here, set_else}
use Rattle.store_rule.specs.Ruled.{Seated}

module _ {A : Type 0} where
  pub set_twice : (xs : List A) (i : ℕ) (x y : A) → set (set xs i x) i y ≡ set xs i y
  set_twice [] i x y = refl
  set_twice (z ∷ zs) zero x y = refl
  set_twice (z ∷ zs) (suc i) x y = ap (λ (q : List A). z ∷ q) (set_twice zs i x y)

  -- a row of one
  pub only : (x y : A) (j : ℕ) → get_elem? (x ∷ []) j ≡ some y → (j ≡ 0) × (x ≡ y)
  only x y zero e = (refl, some-injective x y e)
  only x y (suc j) e = absurd (some-ne-none y (sym e))

module _ {X : Type 0} (rows : List (List (View X))) (views : List (View X)) (se : Seated rows views) (i : ℕ) (v w : View X) (at : get_elem? rows i ≡ some (v ∷ [])) where
  pub here : get_elem? views (se.index i 0) ≡ some v
  here = se.at i 0 (v ∷ []) v at refl

  -- the view of one seat is another one
  unfoldable pub reseated : Seated (set rows i (w ∷ [])) (set views (se.index i 0) w)
  reseated = record { index = se.index; at = there; apart = apart }
    where
      row_of : (p q : ℕ) (row : List (View X)) (x : View X) → get_elem? (set rows i (w ∷ [])) p ≡ some row → get_elem? row q ≡ some x
          → ((p ≡ i) × (q ≡ 0) × (w ≡ x)) ⊎ ((p ≢ i) × (get_elem? rows p ≡ some row))
      row_of p q row x e g = ⊎_elim
          (λ (t : (p ≡ i) × (w ∷ [] ≡ row)). let o = only w x q (subst (λ (z : List (View X)). get_elem? z q ≡ some x) (sym t.1) g) in inl (t.0, o.0, o.1))
          (λ (t : (p ≢ i) × (get_elem? rows p ≡ some row)). inr t)
          (at_set rows i p (w ∷ []) row e)

      there : (p q : ℕ) (row : List (View X)) (x : View X) → get_elem? (set rows i (w ∷ [])) p ≡ some row → get_elem? row q ≡ some x → get_elem? (set views (se.index i 0) w) (se.index p q) ≡ some x
      there p q row x e g = ⊎_elim
          (λ (t : (p ≡ i) × (q ≡ 0) × (w ≡ x)). subst (λ (z : ℕ × ℕ). get_elem? (set views (se.index i 0) w) (se.index z.0 z.1) ≡ some x) (λ j. (sym t.0 j, sym t.1 j))
          (set_here views (se.index i 0) w (at_length views (se.index i 0) v here) ∙ ap some t.2))
          (λ (t : (p ≢ i) × (get_elem? rows p ≡ some row)). let ne = t.0 in
          set_else views (se.index i 0) (se.index p q) w (λ h. ne (se.apart p q i 0 row (v ∷ []) x v t.1 g at refl h).0) ∙ se.at p q row x t.1 g)
          (row_of p q row x e g)

      old : (p q : ℕ) (row : List (View X)) (x : View X) → get_elem? (set rows i (w ∷ [])) p ≡ some row → get_elem? row q ≡ some x
          → (r : List (View X)) × (y : View X) × (get_elem? rows p ≡ some r) × (get_elem? r q ≡ some y)
      old p q row x e g = ⊎_elim
          (λ (t : (p ≡ i) × (q ≡ 0) × (w ≡ x)). (v ∷ [], v, subst (λ (z : ℕ). get_elem? rows z ≡ some (v ∷ [])) (sym t.0) at, subst (λ (z : ℕ). get_elem? (v ∷ []) z ≡ some v) (sym t.1) refl))
          (λ (t : (p ≢ i) × (get_elem? rows p ≡ some row)). (row, x, t.1, g))
          (row_of p q row x e g)

      apart : (p q a b : ℕ) (row other : List (View X)) (x y : View X) → get_elem? (set rows i (w ∷ [])) p ≡ some row → get_elem? row q ≡ some x
          → get_elem? (set rows i (w ∷ [])) a ≡ some other → get_elem? other b ≡ some y → se.index p q ≡ se.index a b → (p ≡ a) × (q ≡ b)
      apart p q a b row other x y e g f h same = let o = old p q row x e g in let n = old a b other y f h in se.apart p q a b o.0 n.0 o.1 n.1 o.2 o.3 n.2 n.3 same
