-- The numbers that a benchmark draws.
use Rattle.std.specs.Prelude.{ℕ, ◌+◌, ◌*◌, ◌/◌, ◌%◌, ◌^◌}
use Rattle.std.specs.Fn.{iterate}

-- the number behind a number, by a linear congruence of 64 bits
unfoldable pub next : ℕ → ℕ
next x = (x * 6364136223846793005 + 1442695040888963407) % 2 ^ 64

-- number i from a seed, where number 0 is the seed itself
unfoldable pub number_at : (seed i : ℕ) → ℕ
number_at seed i = iterate next i seed

-- its upper 32 bits, which are what is drawn
unfoldable pub drawn : (seed i : ℕ) → ℕ
drawn seed i = number_at seed i / 2 ^ 32
