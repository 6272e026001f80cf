use Rattle.std.proofs.Common.{◌≡◌, ◌-◌, ◌^◌, min, length, map, take}
use Rattle.rock_disk.specs.Cell.{joined}
use Rattle.rock_disk.specs.Memory.{cell_state}
use Rattle.rock_disk.proofs.memory.file.size_of_cells.Given as goal

abbrev pub invariant-loop-cell : goal.invariant-loop-cell
invariant-loop-cell l = l.size ≡ min (length (joined (take l.cell-index (map cell_state l.cells)))) (2 ^ 64 - 1)
