use Rattle.std.proofs.Common.{◌≡◌, map}
use Rattle.rock_disk.specs.Cell.{shape}
use Rattle.rock_disk.specs.File.{shapes_from}
use Rattle.rock_file.specs.Cell.{cell_state}
use Rattle.rock_file.proofs.cell.FileCell.slots.Given as goal

abbrev pub invariant-loop-number : goal.invariant-loop-number
invariant-loop-number l = map shape (map cell_state l.cells.items) ≡ shapes_from 0 l.number l.width
