-- Items of one list that stand, each at a place of its own, in another.
use Rattle.std.proofs.Common.{◌≡◌, ◌≢◌, ◌⊎◌, inl, inr, ⊎_elim, ℕ, ◌+◌, ◌<◌, ◌*◌, ◌≤◌, zero, suc, List, [], ◌∷◌, ◌++◌, length, set, sym, refl, ap, ◌∙◌, arith, sum_by}
use mathlib.Core.Option.{some, some-injective, some-ne-none}
use mathlib.Core.Logic.{dite}
use native.Mathlib.Decide.{ℕ_discrete}
use lib.ListN.{get_elem?}
use Rattle.std.proofs.lemmas.List.Sums.{sum_by-cons}
use Rattle.core_model.proofs.Lists.{at_set, set_else, sum_at, sum_some}

-- where a list is split, the item stands
pub seam : {X : Type 0} → (xs : List X) (x : X) (ys : List X) → get_elem? (xs ++ x ∷ ys) (length xs) ≡ some x
seam [] x ys = refl
seam (y ∷ xs) x ys = seam xs x ys

pub seam_at : {X : Type 0} → (zs xs : List X) (x : X) (ys : List X) → zs ≡ xs ++ x ∷ ys → get_elem? zs (length xs) ≡ some x
seam_at zs xs x ys e = ap (λ l. get_elem? l (length xs)) e ∙ seam xs x ys

-- and a list is split where an item stands
pub record Split {X : Type 0} (zs : List X) (x : X) : Type 0 where
  pub front : List X
  pub back : List X
  pub split : zs ≡ front ++ x ∷ back

pub split_at : {X : Type 0} → (zs : List X) (i : ℕ) (x : X) → get_elem? zs i ≡ some x → Split zs x
split_at [] i x e = absurd (some-ne-none x (sym e))
split_at (z ∷ zs) zero x e = record { front = []; back = zs; split = ap (λ y. y ∷ zs) (some-injective z x e) }
split_at (z ∷ zs) (suc i) x e = let h = split_at zs i x e in record { front = z ∷ h.front; back = h.back; split = ap (λ l. z ∷ l) h.split }

pub sum_within : {X : Type 0} → (f g : X → ℕ) (xs : List X) → ((i : ℕ) (x : X) → get_elem? xs i ≡ some x → f x ≤ g x) → sum_by f xs ≤ sum_by g xs
sum_within f g [] h = omega arith
sum_within f g (x ∷ xs) h = let a = sum_by-cons f x xs in let b = sum_by-cons g x xs in let r = sum_within f g xs (λ i y e. h (suc i) y e) in let e = h 0 x refl in omega arith

-- and less in all, where one is less
pub sum_below : {X : Type 0} → (f g : X → ℕ) (xs : List X) (j : ℕ) (y : X) → get_elem? xs j ≡ some y → ((i : ℕ) (x : X) → get_elem? xs i ≡ some x → f x ≤ g x) → f y < g y → sum_by f xs < sum_by g xs
sum_below f g [] j y e h lt = absurd (some-ne-none y (sym e))
sum_below f g (x ∷ xs) zero y e h lt =
    let a = sum_by-cons f x xs in
    let b = sum_by-cons g x xs in
    let r = sum_within f g xs (λ i z q. h (suc i) z q) in
    let is = some-injective x y e in
    let m = ap f is in
    let n = ap g is in
    omega arith
sum_below f g (x ∷ xs) (suc j) y e h lt =
    let a = sum_by-cons f x xs in
    let b = sum_by-cons g x xs in
    let r = sum_below f g xs j y e (λ i z q. h (suc i) z q) lt in
    let l = h 0 x refl in
    omega arith

pub sum_same : {X : Type 0} → (f : X → ℕ) (n : ℕ) (xs : List X) → ((i : ℕ) (x : X) → get_elem? xs i ≡ some x → f x ≡ n) → sum_by f xs ≡ n * length xs
sum_same f n [] h = omega arith
sum_same f n (x ∷ xs) h = let a = sum_by-cons f x xs in let r = sum_same f n xs (λ i y e. h (suc i) y e) in let e = h 0 x refl in grind arith

pub sum_none : {X : Type 0} → (f : X → ℕ) (xs : List X) → ((i : ℕ) (x : X) → get_elem? xs i ≡ some x → f x ≡ 0) → sum_by f xs ≡ 0
sum_none f xs h = dite (ℕ_discrete (sum_by f xs) 0) (λ e. e) (λ ne. absurd (let c = sum_some f xs (omega arith) in let z = h c.i c.item c.at in let y = c.some_ in omega arith))

module _ {V W : Type 0} (view : W → V) (e : V) where
  -- the list with e in place of the items that are taken out
  abbrev pub rest : List V → List W → (ℕ → ℕ) → List V
  rest xs [] index = xs
  rest xs (w ∷ ws) index = rest (set xs (index 0) e) ws (λ n. index (suc n))

  abbrev pub AreAt : List V → List W → (ℕ → ℕ) → Type 0
  AreAt xs ws index = (j : ℕ) (w : W) → get_elem? ws j ≡ some w → get_elem? xs (index j) ≡ some (view w)

  abbrev pub AreApart : List W → (ℕ → ℕ) → Type 0
  AreApart ws index = (j l : ℕ) (w x : W) → get_elem? ws j ≡ some w → get_elem? ws l ≡ some x → index j ≡ index l → j ≡ l

  later_at : (xs : List V) (w : W) (ws : List W) (index : ℕ → ℕ) → AreAt xs (w ∷ ws) index → AreApart (w ∷ ws) index → AreAt (set xs (index 0) e) ws (λ n. index (suc n))
  later_at xs w ws index at apart j x h = set_else xs (index 0) (index (suc j)) e (λ q. let z = apart (suc j) 0 x w h refl q in omega arith) ∙ at (suc j) x h

  later_apart : (w : W) (ws : List W) (index : ℕ → ℕ) → AreApart (w ∷ ws) index → AreApart ws (λ n. index (suc n))
  later_apart w ws index apart j l x y h g q = let z = apart (suc j) (suc l) x y h g q in omega arith

  pub sums : (g : V → ℕ) → g e ≡ 0 → (xs : List V) (ws : List W) (index : ℕ → ℕ) → AreAt xs ws index → AreApart ws index
      → sum_by g xs ≡ sum_by (λ w. g (view w)) ws + sum_by g (rest xs ws index)
  sums g none xs [] index at apart = omega arith
  sums g none xs (w ∷ ws) index at apart =
      let taken = sum_at g xs (index 0) (view w) e (at 0 w refl) in
      let r = sums g none (set xs (index 0) e) ws (λ n. index (suc n)) (later_at xs w ws index at apart) (later_apart w ws index apart) in
      let c = sum_by-cons (λ (x : W). g (view x)) w ws in
      omega arith

  -- an item is one of those that were taken out, or is left
  pub taken_or_left : (xs : List V) (ws : List W) (index : ℕ → ℕ) → AreAt xs ws index → AreApart ws index → (i : ℕ) (u : V) → get_elem? xs i ≡ some u
      → ((j : ℕ) × (w : W) × (get_elem? ws j ≡ some w) × (view w ≡ u)) ⊎ (get_elem? (rest xs ws index) i ≡ some u)
  taken_or_left xs [] index at apart i u h = inr h
  taken_or_left xs (w ∷ ws) index at apart i u h = dite (ℕ_discrete i (index 0))
      (λ q. inl (0, w, refl, some-injective (view w) u (sym (at 0 w refl) ∙ ap (get_elem? xs) (sym q) ∙ h)))
      (λ ne. ⊎_elim
      (λ (t : (j : ℕ) × (x : W) × (get_elem? ws j ≡ some x) × (view x ≡ u)). inl (suc t.0, t.1, t.2, t.3))
      (λ (t : get_elem? (rest (set xs (index 0) e) ws (λ n. index (suc n))) i ≡ some u). inr t)
      (taken_or_left (set xs (index 0) e) ws (λ n. index (suc n)) (later_at xs w ws index at apart) (later_apart w ws index apart) i u (set_else xs (index 0) i e ne ∙ h)))

  pub left_was : (xs : List V) (ws : List W) (index : ℕ → ℕ) (i : ℕ) (u : V) → get_elem? (rest xs ws index) i ≡ some u → (e ≡ u) ⊎ (get_elem? xs i ≡ some u)
  left_was xs [] index i u h = inr h
  left_was xs (w ∷ ws) index i u h = ⊎_elim
      (λ (t : e ≡ u). inl t)
      (λ (t : get_elem? (set xs (index 0) e) i ≡ some u). ⊎_elim
      (λ (q : (i ≡ index 0) × (e ≡ u)). inl q.1)
      (λ (q : (i ≢ index 0) × (get_elem? xs i ≡ some u)). inr q.1)
      (at_set xs (index 0) i e u t))
      (left_was (set xs (index 0) e) ws (λ n. index (suc n)) i u h)
