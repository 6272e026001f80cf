-- A cell that is written.
use Rattle.std.specs.Prelude.{◌≡◌, ◌⊎◌, ℕ, ◌<◌, List, [], ◌∷◌, ◌++◌, length, get_or, set, Contains}
use Rattle.rock_disk.specs.Cell.{CellState}

-- what a crash may leave after it could be left before, or is these bytes
abbrev pub AddsAtMost : List ℕ → CellState → CellState → Type 0
AddsAtMost bytes before after = (content : List ℕ) → Contains after.possible content → Contains before.possible content ⊎ (content ≡ bytes)

-- a read gives what it gave before, or these bytes
abbrev pub ReadsOldOrNew : List ℕ → CellState → CellState → Type 0
ReadsOldOrNew bytes before after = (after.now ≡ before.now) ⊎ (after.now ≡ bytes)

-- a crash may leave these bytes too
abbrev pub with_possible : List ℕ → CellState → CellState
with_possible bytes c = record { number = c.number; width = c.width; now = c.now; possible = c.possible ++ bytes ∷ [] }

-- a read gives these bytes, and all that was possible is kept
abbrev pub written : List ℕ → CellState → CellState
written bytes c = record { number = c.number; width = c.width; now = bytes; possible = c.possible ++ bytes ∷ [] }

-- these bytes took the place of what a read gave, and all else that was possible is kept
pub record IsReplaced (bytes : List ℕ) (before after : CellState) : Type 0 where
  pub place : ℕ
  pub within : place < length before.possible
  pub was : get_or before.possible place [] ≡ before.now
  pub is : after ≡ record { number = before.number; width = before.width; now = bytes; possible = set before.possible place bytes }

-- written, with all that was possible or, for want of memory, without what a read gave
abbrev pub IsWritten : List ℕ → CellState → CellState → Type 0
IsWritten bytes before after = (after ≡ written bytes before) ⊎ IsReplaced bytes before after

-- not written, but possible or, for want of memory, not even that
abbrev pub IsHalfWritten : List ℕ → CellState → CellState → Type 0
IsHalfWritten bytes before after = (after ≡ with_possible bytes before) ⊎ (after ≡ before)
