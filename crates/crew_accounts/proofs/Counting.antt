-- Counts that rise.
use Rattle.std.proofs.Common.{arith, ◌+◌, ◌≤◌, ℕ}
use Rattle.std.specs.Prelude.{min}

-- a count that rose by one and then by more, unless it stands at its end, rose by all of it
pub rises : (end before between after more : ℕ) → min (before + 1) end ≤ between → min (between + more) end ≤ after → min (before + (1 + more)) end ≤ after
rises end before between after more one rest = omega (arith, one, rest)
