-- Cells that are read by one call, one behind the other.
use Rattle.std.specs.Prelude.{◌≡◌, ℕ, zero, suc, List, ◌++◌, sum_by}
use Rattle.rock_io.specs.Faults.{one_more}
use Rattle.rock_disk.specs.Cell.{CellState}

-- how wide these cells are together
abbrev pub width_of : List CellState → ℕ
width_of cells = sum_by (λ (c : CellState). c.width) cells

-- the bytes begin with this front
abbrev pub BeginsWith : List ℕ → List ℕ → Type 0
BeginsWith front bytes = (rest : List ℕ) × (bytes ≡ front ++ rest)

-- a count of 64 bits after so many more, as far as it goes
abbrev pub many_more : ℕ → ℕ → ℕ
many_more zero count = count
many_more (suc n) count = one_more (many_more n count)
