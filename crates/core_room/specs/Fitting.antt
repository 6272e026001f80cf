-- The most slots that each anchor of a store ever holds, and whether that is together no more than the store has. `need` says how many a
-- writer may come to need at an anchor, and `chain` which ones the opening kept there.
use Rattle.std.specs.Prelude.{Bool, List, length, max, min, nat_le, sum_by, ℕ}
use Rattle.std.specs.List.{range_with_len}

-- the most slots that an entry comes to have that is written at this anchor: what is needed there, and never more than there are
abbrev pub most_written : (slots : ℕ) → (need : ℕ → ℕ) → ℕ → ℕ
most_written slots need a = min (need a) slots

-- the most that the anchor ever holds: that, or what the opening kept there
abbrev pub capacity : (slots : ℕ) → (need : ℕ → ℕ) → (chain : ℕ → List ℕ) → ℕ → ℕ
capacity slots need chain a = max (most_written slots need a) (length (chain a))

-- a store fits where there are slots for all of that
abbrev pub fits : (anchors slots : ℕ) → (need : ℕ → ℕ) → (chain : ℕ → List ℕ) → Bool
fits anchors slots need chain = nat_le (sum_by (capacity slots need chain) (range_with_len 0 anchors)) slots
