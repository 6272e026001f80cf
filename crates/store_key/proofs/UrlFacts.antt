-- There is one first byte that no URL has.
use Rattle.std.proofs.Common.{◌≡◌, ℕ, ◌≤◌, List, length, ap, subst, arith, inl, inr}
use Rattle.std.proofs.lemmas.Bool.{cases_lt}
use Rattle.std.specs.Prelude.{Result, IsErrOf, Err, ◌↔◌}
use Rattle.store_key.specs.Url.{IsFirstBadByte}
use Rattle.store_key.specs.declared.url.UrlFault.{UrlFault}
use Rattle.store_key.specs.declared.url.UrlFault.TheVariants.{BadByte}

pub one_bad_byte : (text : List ℕ) (i j : ℕ) → IsFirstBadByte text i → IsFirstBadByte text j → i ≡ j
one_bad_byte text i j p q = elim (cases_lt i j) as (λ _. i ≡ j) [
  | inl below ↦ absurd (p.bad (q.first i below))
  | inr above ↦ elim (cases_lt j i) as (λ _. i ≡ j) [
    | inl under ↦ absurd (q.bad (p.first j under))
    | inr over ↦ omega arith
  ]
]

-- the fault that names the first bad byte comes exactly where that byte is the first
pub bad_byte_at : {T : Type 0} (text : List ℕ) (i at : ℕ) → length text ≤ 2048 → IsFirstBadByte text i
    → (IsErrOf {T = T} (Err (BadByte i)) (BadByte at) ↔ ((length text ≤ 2048) × IsFirstBadByte text at))
bad_byte_at {T = T} text i at short first = (
  λ e. let same : i ≡ at = cc in (short, subst (λ (k : ℕ). IsFirstBadByte text k) same first),
  λ p. let fault : ℕ → Result T UrlFault = λ k. Err (BadByte k) in ap fault (one_bad_byte text i at first p.1),
)
