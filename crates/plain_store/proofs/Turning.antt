-- A search goes on by one.
use Rattle.std.proofs.Common.{◌≡◌, ℕ, suc, ◌+◌, ◌-◌, ◌<◌, ap, arith, Bool, cond, zero, refl, ◌≤◌, ◌∙◌}
use Rattle.std.specs.Prelude.{map, find, Option, Some, None}
use Rattle.std.specs.List.{range_with_len}

pub more_left : (i n : ℕ) → i < n → n - i ≡ suc (n - (i + 1))
more_left i n h = omega arith

-- the first of what is left is this one, or else that of the rest
pub turn : (p : ℕ → Bool) (f : ℕ → ℕ) (i n : ℕ) → i < n
    → find p (map f (range_with_len i (n - i))) ≡ cond (p (f i)) (Some (f i)) (find p (map f (range_with_len (i + 1) (n - (i + 1)))))
turn p f i n h = ap (λ m. find p (map f (range_with_len i m))) (more_left i n h)

-- behind the last there is none
pub turned : (p : ℕ → Bool) (f : ℕ → ℕ) (i n : ℕ) → n ≤ i → find p (map f (range_with_len i (n - i))) ≡ None
turned p f i n h = let none : n - i ≡ 0 = omega arith in ap (λ m. find p (map f (range_with_len i m))) none
