-- Sums over lists, and over the numbers of anchors.
use Rattle.std.proofs.Common.{List, [], arith, cond, eq-eqb, get_or, length, refl, suc, sum_by, sym, zero, ◌+◌, ◌<◌, ◌==◌, ◌∙◌, ◌∷◌, ◌≡◌, ◌≤◌, ap, ℕ}
use Rattle.std.specs.List.{range_with_len}
use Rattle.std.proofs.lemmas.List.Sums.{sum_by-cons}
use mathlib.Core.Option.{some, some-injective, some-ne-none}
use mathlib.Core.Logic.{dite}
use native.Mathlib.Decide.{ℕ_discrete}
use lib.ListN.{get_elem?}

module _ {A : Type 0} where
  pub sum_plus : (f g : A → ℕ) (xs : List A) → sum_by (λ x. f x + g x) xs ≡ sum_by f xs + sum_by g xs
  sum_plus f g [] = omega arith
  sum_plus f g (x ∷ xs) = let a = sum_by-cons (λ x. f x + g x) x xs in let b = sum_by-cons f x xs in let c = sum_by-cons g x xs in
      let h = sum_plus f g xs in omega arith

  sum_zero : (xs : List A) → sum_by (λ x. 0) xs ≡ 0
  sum_zero [] = refl
  sum_zero (x ∷ xs) = let a = sum_by-cons (λ x. 0) x xs in let r = sum_zero xs in omega arith

  pub sum_less : (f g : A → ℕ) (xs : List A) → ((i : ℕ) (x : A) → get_elem? xs i ≡ some x → f x ≤ g x) → sum_by f xs ≤ sum_by g xs
  sum_less f g [] h = omega arith
  sum_less f g (x ∷ xs) h = let a = sum_by-cons f x xs in let b = sum_by-cons g x xs in let e = h 0 x refl in let r = sum_less f g xs
      (λ i y at. h (suc i) y at) in omega arith

  pub sum_even : (f g : A → ℕ) (xs : List A) → ((x : A) → f x ≡ g x) → sum_by f xs ≡ sum_by g xs
  sum_even f g [] h = refl
  sum_even f g (x ∷ xs) h = let a = sum_by-cons f x xs in let b = sum_by-cons g x xs in let e = h x in let r = sum_even f g xs h in
      omega arith

-- two sums change places
pub exchange : {A B : Type 0} (f : B → A → ℕ) (bs : List B) (xs : List A)
    → sum_by (λ b. sum_by (f b) xs) bs ≡ sum_by (λ x. sum_by (λ b. f b x) bs) xs
exchange f bs [] = sum_even (λ b. sum_by (f b) []) (λ b. 0) bs (λ b. refl) ∙ sum_zero bs
exchange f bs (x ∷ xs) = let a = sum_even (λ b. sum_by (f b) (x ∷ xs)) (λ b. f b x + sum_by (f b) xs) bs (λ b. sum_by-cons (f b) x xs) in
    let p = sum_plus (λ b. f b x) (λ b. sum_by (f b) xs) bs in let c = sum_by-cons (λ y. sum_by (λ b. f b y) bs) x xs in
    let r = exchange f bs xs in omega arith

-- a number of a range is below its end
pub in_range : (from n i a : ℕ) → get_elem? (range_with_len from n) i ≡ some a → a < from + n
in_range from zero i a e = absurd (some-ne-none a (sym e))
in_range from (suc n) zero a e = let q = some-injective from a e in omega arith
in_range from (suc n) (suc i) a e = let r = in_range (from + 1) n i a e in omega arith

-- what belongs to one number of a range
pub once : (m w from n : ℕ) → from ≤ w → w < from + n → m ≤ sum_by (λ a. cond (w == a) m 0) (range_with_len from n)
once m w from zero low high = absurd (omega arith)
once m w from (suc n) low high = let c = sum_by-cons (λ a. cond (w == a) m 0) from (range_with_len (from + 1) n) in dite (ℕ_discrete w from)
    (λ e. let h = here e in omega arith)
    (λ ne. let r = once m w (from + 1) n (omega arith) (omega arith) in omega arith)
  where
    here : w ≡ from → cond (w == from) m 0 ≡ m
    here e = let z = eq-eqb w from e in rw z refl

-- the items of a list, by their numbers
pub by_number : {A : Type 0} (f : A → ℕ) (d : A) (xs : List A) (g : ℕ → ℕ) (from : ℕ)
    → ((j : ℕ) → j < length xs → f (get_or xs j d) ≡ g (from + j)) → sum_by f xs ≡ sum_by g (range_with_len from (length xs))
by_number f d [] g from h = refl
by_number f d (x ∷ xs) g from h = let a = sum_by-cons f x xs in let b = sum_by-cons g from (range_with_len (from + 1) (length xs)) in
    let e = h 0 (omega arith) in let z = ap g (plus_zero from) in let r = by_number f d xs g (from + 1)
    (λ j lt. h (suc j) (omega arith) ∙ ap g (omega arith)) in omega arith
  where
    plus_zero : (n : ℕ) → n + 0 ≡ n
    plus_zero n = omega arith
