-- What one cell of a file tells.
use Rattle.std.specs.Prelude.{ℕ, List, [], ◌∷◌, ◌++◌}

-- its place, what a read gives, and what a crash may leave
pub record CellState : Type 0 where
  pub number : ℕ
  pub width : ℕ
  pub now : List ℕ
  pub possible : List (List ℕ)

-- where a cell stands and how wide it is, which every cell tells
abbrev pub shape : CellState → ℕ × ℕ
shape c = (c.number, c.width)

-- a cell that a crash leaves as it is
abbrev pub settled : ℕ → ℕ → List ℕ → CellState
settled number width bytes = record { number = number; width = width; now = bytes; possible = bytes ∷ [] }

-- what reads of these cells give, one after the other
abbrev pub joined : List CellState → List ℕ
joined [] = []
joined (c ∷ cells) = c.now ++ joined cells

-- a cell of which a crash leaves what a read gives
abbrev pub settle : CellState → CellState
settle c = settled c.number c.width c.now
