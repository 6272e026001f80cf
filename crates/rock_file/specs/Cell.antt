-- What a cell of a file tells.
use Rattle.std.specs.Prelude.{[]}
use Rattle.rock_disk.specs.Cell.{CellState}
use Rattle.rock_file.specs.declared.cell.FileCell.{FileCell}

-- its number and its width. What it holds is not told
abbrev pub cell_state : FileCell → CellState
cell_state c = record { number = c.number; width = c.width; now = []; possible = [] }
