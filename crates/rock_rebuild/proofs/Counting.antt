-- How many headers are left.
use Rattle.std.proofs.Common.{◌≡◌, ℕ, ◌+◌, ◌<◌, ◌≤◌, List, [], ◌∷◌, length, get_or, inl, inr, ap, arith}
use Rattle.std.specs.Prelude.{Option, Some, None, sum_by}
use Rattle.std.proofs.Math.ListN.{set}
use Rattle.std.proofs.lemmas.Bool.{cases_lt}
use Rattle.std.proofs.lemmas.List.{get_or_past}
use Rattle.std.proofs.lemmas.List.Sums.{sum_by-set, sum_by-cons}
use Rattle.slot_cell.specs.declared.header.Header.{Header}

abbrev pub one_if_left : Option Header → ℕ
one_if_left None = 0
one_if_left (Some h) = 1

abbrev pub left_in : List (Option Header) → ℕ
left_in headers = sum_by one_if_left headers

none_is_none : {h : Header} {o : Option Header} → o ≡ None → o ≡ Some h → ⊥
none_is_none e k = cc

pub within : (headers : List (Option Header)) (s : ℕ) (h : Header) → get_or headers s None ≡ Some h → s < length headers
within headers s h there = elim (cases_lt s (length headers)) as (λ _. s < length headers) [
  | inl below ↦ below
  | inr past ↦ absurd (none_is_none (get_or_past headers s None past) there)
]

-- one that is taken is left no more
pub one_fewer : (headers : List (Option Header)) (s : ℕ) (h : Header) → get_or headers s None ≡ Some h → left_in (set headers s None) + 1 ≡ left_in headers
one_fewer headers s h there =
    let sums = sum_by-set one_if_left headers s None None (within headers s h there) in
    let one : one_if_left (get_or headers s None) ≡ 1 = ap one_if_left there in
    omega (arith, sums, one)

one_at_most : (o : Option Header) → one_if_left o ≤ 1
one_at_most None = omega arith
one_at_most (Some h) = omega arith

pub few_left : (headers : List (Option Header)) → left_in headers ≤ length headers
few_left [] = omega arith
few_left (o ∷ headers) = omega (arith, sum_by-cons one_if_left o headers, one_at_most o, few_left headers)
