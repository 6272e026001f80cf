-- Numbers are drawn one behind the other.
use Rattle.std.proofs.Common.{◌≡◌, ℕ, zero, suc, ◌+◌, ◌/◌, ◌^◌, refl, arith, sym, ap, ◌∙◌}
use Rattle.std.specs.Fn.{iterate}
use Rattle.workload.specs.Numbers.{next, number_at, drawn}

iterate_suc : (h : ℕ → ℕ) (n x : ℕ) → iterate h (suc n) x ≡ h (iterate h n x)
iterate_suc h zero x = refl
iterate_suc h (suc n) x = iterate_suc h n (h x)

number_suc : (seed i : ℕ) → number_at seed (suc i) ≡ next (number_at seed i)
unfolding number_at
number_suc seed i = iterate_suc next i seed

pub number_first : (seed : ℕ) → number_at seed 0 ≡ seed
unfolding number_at
number_first seed = refl

pub number_more : (seed i j number : ℕ) → j ≡ i + 1 → number ≡ number_at seed i → next number ≡ number_at seed j
number_more seed i j number h e =
    let s : j ≡ suc i = omega arith in
    ap next e ∙ sym (number_suc seed i) ∙ ap (number_at seed) (sym s)

pub half_drawn : (seed i number : ℕ) → number ≡ number_at seed i → number / 2 ^ 32 ≡ drawn seed i
unfolding drawn
half_drawn seed i number e = ap (λ (n : ℕ). n / 2 ^ 32) e
