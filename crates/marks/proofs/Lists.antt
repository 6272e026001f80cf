-- Elements of lists, and lists read by `get_elem?`.
use Rattle.std.proofs.Common.{◌≡◌, ◌⊎◌, inl, inr, ⊎_elim, ℕ, zero, suc, List, [], ◌∷◌, ◌++◌, length, get_or, set, sym, refl, ap, ◌∙◌, subst, arith, Bool, true, false, cond, Contains}
use mathlib.Core.Option.{some, some-injective, some-ne-none}
use lib.ListN.{get_elem?}
use Rattle.std.specs.List.{filter}

module _ {X : Type 0} where
  pub none_in : (x : X) → Contains [] x → ⊥
  none_in x (k, lt, e) = omega arith

  pub first_in : (x : X) (xs : List X) → Contains (x ∷ xs) x
  first_in x xs = (0, omega arith, refl)

  pub later_in : (y x : X) (xs : List X) → Contains xs x → Contains (y ∷ xs) x
  later_in y x xs h = (suc h.0, (let lt = h.1 in omega arith), h.2)

  pub cons_cases : (y x : X) (xs : List X) → Contains (y ∷ xs) x → (y ≡ x) ⊎ Contains xs x
  cons_cases y x xs (zero, lt, e) = inl e
  cons_cases y x xs (suc k, lt, e) = inr (k, omega arith, e)

  module _ (p : X → Bool) where
    from_one : (b : Bool) (y x : X) (xs : List X) → p y ≡ b → (Contains (filter p xs) x → (p x ≡ true) × Contains xs x) → Contains (cond b (y ∷ filter p xs) (filter p xs)) x → (p x ≡ true) × Contains (y ∷ xs) x
    from_one true y x xs e rest h = ⊎_elim
        (λ (same : y ≡ x). (subst (λ (z : X). p z ≡ true) same e, subst (Contains (y ∷ xs)) same (first_in y xs)))
        (λ (t : Contains (filter p xs) x). let r = rest t in (r.0, later_in y x xs r.1))
        (cons_cases y x (filter p xs) h)
    from_one false y x xs e rest h = let r = rest h in (r.0, later_in y x xs r.1)

    pub from_filter : (xs : List X) (x : X) → Contains (filter p xs) x → (p x ≡ true) × Contains xs x
    from_filter [] x h = absurd (none_in x h)
    from_filter (y ∷ ys) x h = from_one (p y) y x ys refl (from_filter ys x) h

    to_one : (b : Bool) (y x : X) (xs : List X) → p y ≡ b → p x ≡ true → (Contains xs x → Contains (filter p xs) x) → Contains (y ∷ xs) x → Contains (cond b (y ∷ filter p xs) (filter p xs)) x
    to_one true y x xs e is rest h = ⊎_elim
        (λ (same : y ≡ x). subst (Contains (y ∷ filter p xs)) same (first_in y (filter p xs)))
        (λ (t : Contains xs x). later_in y x (filter p xs) (rest t))
        (cons_cases y x xs h)
    to_one false y x xs e is rest h = ⊎_elim
        (λ (same : y ≡ x). let clash : false ≡ true = sym e ∙ (ap p same ∙ is) in cc)
        (λ (t : Contains xs x). rest t)
        (cons_cases y x xs h)

    pub to_filter : (xs : List X) (x : X) → p x ≡ true → Contains xs x → Contains (filter p xs) x
    to_filter [] x is h = absurd (none_in x h)
    to_filter (y ∷ ys) x is h = to_one (p y) y x ys refl is (to_filter ys x is) h

  -- an element of a list with one more at the end is that one, at the end, or an earlier one
  pub snoc_cases : (l : List X) (a b : X) (j : ℕ) → get_elem? (l ++ a ∷ []) j ≡ some b → (get_elem? l j ≡ some b) ⊎ ((j ≡ length l) × (a ≡ b))
  snoc_cases [] a b zero e = inr (refl, some-injective a b e)
  snoc_cases [] a b (suc j) e = absurd (some-ne-none b (sym e))
  snoc_cases (x ∷ xs) a b zero e = inl e
  snoc_cases (x ∷ xs) a b (suc j) e = ⊎_elim (λ t. inl t) (λ t. inr ((let k = t.0 in omega arith), t.1)) (snoc_cases xs a b j e)

  -- what stood at a place is put there again
  pub set_same : (l : List X) (i : ℕ) (d : X) → set l i (get_or l i d) ≡ l
  set_same [] i d = refl
  set_same (x ∷ xs) zero d = refl
  set_same (x ∷ xs) (suc i) d = ap (λ (ys : List X). x ∷ ys) (set_same xs i d)
