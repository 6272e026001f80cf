-- Counts of faults.
use Rattle.std.specs.Prelude.{◌≡◌, ℕ, ◌+◌, ◌-◌, ◌^◌, ◌≤◌, min, Result, MatchResult}

-- a count of 64 bits after one more, which stays as it is at its end
abbrev pub one_more : ℕ → ℕ
one_more count = min (count + 1) (2 ^ 64 - 1)

-- a count of faults rose in a call; where a count of 64 bits stands at its end it cannot, and is taken as risen
abbrev pub Rose : ℕ → ℕ → Type 0
Rose before after = one_more before ≤ after

-- the count rose by one where the call failed, and else it stays
abbrev pub CountsFault : {X E : Type 0} → Result X E → ℕ → ℕ → Type 0
CountsFault r before after = MatchResult r (λ _. after ≡ before) (λ _. after ≡ one_more before)
