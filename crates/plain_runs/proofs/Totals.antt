-- Sums over lists: of two functions, of one item, and place by place.
use Rattle.std.proofs.Common.{List, [], arith, ap, cond, eq-eqb, get_or, length, ne_eqb, refl, suc, sum_by, sym, zero, ◌+◌, ◌<◌, ◌==◌, ◌≡◌, ◌≢◌, ◌≤◌, ◌∷◌, ℕ}
use Rattle.std.proofs.lemmas.List.Sums.{sum_by-cons}
use mathlib.Core.Logic.{dite}
use mathlib.Core.Option.{some, some-injective, some-ne-none}
use native.Mathlib.Decide.{ℕ_discrete}
use lib.ListN.{get_elem?}

module _ {A : Type 0} where
  pub sum_plus : (f h : A → ℕ) (xs : List A) → sum_by (λ x. f x + h x) xs ≡ sum_by f xs + sum_by h xs
  sum_plus f h [] = omega arith
  sum_plus f h (x ∷ xs) = let a = sum_by-cons (λ x. f x + h x) x xs in let b = sum_by-cons f x xs in let c = sum_by-cons h x xs in let r = sum_plus f h xs in omega arith

  pub sum_same : (f h : A → ℕ) (xs : List A) → ((i : ℕ) (x : A) → get_elem? xs i ≡ some x → f x ≡ h x) → sum_by f xs ≡ sum_by h xs
  sum_same f h [] e = refl
  sum_same f h (x ∷ xs) e = let b = sum_by-cons f x xs in let c = sum_by-cons h x xs in let here = e 0 x refl in let r = sum_same f h xs (λ i y at. e (suc i) y at) in omega arith

  pub sum_none : (f : A → ℕ) (xs : List A) → ((i : ℕ) (x : A) → get_elem? xs i ≡ some x → f x ≡ 0) → sum_by f xs ≡ 0
  sum_none f [] e = refl
  sum_none f (x ∷ xs) e = let b = sum_by-cons f x xs in let here = e 0 x refl in let r = sum_none f xs (λ i y at. e (suc i) y at) in omega arith

  -- one item alone counts
  pub sum_only : (f : A → ℕ) (xs : List A) (i : ℕ) (x : A) → get_elem? xs i ≡ some x → ((j : ℕ) (y : A) → get_elem? xs j ≡ some y → j ≢ i → f y ≡ 0) → sum_by f xs ≡ f x
  sum_only f [] i x at e = absurd (some-ne-none x (sym at))
  sum_only f (y ∷ ys) zero x at e = let b = sum_by-cons f y ys in let same = ap f (some-injective y x at) in let r = sum_none f ys (λ j z there. e (suc j) z there (λ h. omega arith)) in omega arith
  sum_only f (y ∷ ys) (suc i) x at e = let b = sum_by-cons f y ys in let none = e 0 y refl (λ h. omega arith) in let r = sum_only f ys i x at (λ j z there ne. e (suc j) z there (λ h. ne (omega arith))) in omega arith

-- a function of numbers at n and behind it, so many of them
abbrev pub total : (ℕ → ℕ) → ℕ → ℕ → ℕ
total f n zero = 0
total f n (suc m) = f n + total f (suc n) m

pub total_none : (f : ℕ → ℕ) (n m : ℕ) → ((a : ℕ) → n ≤ a → a < n + m → f a ≡ 0) → total f n m ≡ 0
total_none f n zero e = refl
total_none f n (suc m) e = let here = e n (omega arith) (omega arith) in let r = total_none f (suc n) m (λ a le lt. e a (omega arith) (omega arith)) in omega arith

pub total_plus : (f h : ℕ → ℕ) (n m : ℕ) → total (λ a. f a + h a) n m ≡ total f n m + total h n m
total_plus f h n zero = omega arith
total_plus f h n (suc m) = let r = total_plus f h (suc n) m in omega arith

pub total_same : (f h : ℕ → ℕ) (n m : ℕ) → ((a : ℕ) → n ≤ a → a < n + m → f a ≡ h a) → total f n m ≡ total h n m
total_same f h n zero e = refl
total_same f h n (suc m) e = let here = e n (omega arith) (omega arith) in let r = total_same f h (suc n) m (λ a le lt. e a (omega arith) (omega arith)) in omega arith

-- one number alone counts
pub total_only : (x y n m : ℕ) → n ≤ x → x < n + m → total (λ a. cond (x == a) y 0) n m ≡ y
total_only x y n zero le lt = absurd (omega arith)
total_only x y n (suc m) le lt = dite (ℕ_discrete x n)
    (λ e. let here = at_it e in let r = total_none (λ a. cond (x == a) y 0) (suc n) m (λ a above below. elsewhere a (λ h. omega arith)) in omega arith)
    (λ ne. let here = elsewhere n ne in let r = total_only x y (suc n) m (omega arith) (omega arith) in omega arith)
  where
    at_it : x ≡ n → cond (x == n) y 0 ≡ y
    at_it e = rw (eq-eqb x n e) refl

    elsewhere : (a : ℕ) → x ≢ a → cond (x == a) y 0 ≡ 0
    elsewhere a ne = rw (ne_eqb x a ne) refl

-- sums in sums may be taken in either order
pub total_of_sums : {A : Type 0} → (f : ℕ → A → ℕ) (xs : List A) (n m : ℕ) → total (λ a. sum_by (f a) xs) n m ≡ sum_by (λ x. total (λ a. f a x) n m) xs
total_of_sums f [] n m = total_none (λ a. sum_by (f a) []) n m (λ a le lt. refl)
total_of_sums f (x ∷ xs) n m = let c = sum_by-cons (λ z. total (λ a. f a z) n m) x xs in let r = total_of_sums f xs n m in
    let e = total_same (λ a. sum_by (f a) (x ∷ xs)) (λ a. f a x + sum_by (f a) xs) n m (λ a le lt. sum_by-cons (f a) x xs) in let p = total_plus (λ a. f a x) (λ a. sum_by (f a) xs) n m in omega arith

-- two lists of one length, place by place, with what else counts at each place
pub sums_match : {A B : Type 0} → (f : A → ℕ) (d : A) (l : ℕ → ℕ) (h : B → ℕ) (e : B) (n : ℕ) (xs : List A) (ys : List B) → length xs ≡ length ys
    → ((i : ℕ) → i < length xs → f (get_or xs i d) + l (n + i) ≡ h (get_or ys i e)) → sum_by f xs + total l n (length xs) ≡ sum_by h ys
sums_match f d l h e n [] [] same each = refl
sums_match f d l h e n [] (y ∷ ys) same each = absurd (omega arith)
sums_match f d l h e n (x ∷ xs) [] same each = absurd (omega arith)
sums_match f d l h e n (x ∷ xs) (y ∷ ys) same each = let b = sum_by-cons f x xs in let c = sum_by-cons h y ys in let here = each 0 (omega arith) in let at = ap l (none n) in
    let r = sums_match f d l h e (suc n) xs ys (omega arith) (λ i lt. shifted i (each (suc i) (omega arith))) in omega arith
  where
    none : (n : ℕ) → n + 0 ≡ n
    none n = omega arith

    shifted : (i : ℕ) → f (get_or xs i d) + l (n + suc i) ≡ h (get_or ys i e) → f (get_or xs i d) + l (suc n + i) ≡ h (get_or ys i e)
    shifted i k = let e : n + suc i ≡ suc n + i = omega arith in let w = ap l e in omega arith
