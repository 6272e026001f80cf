use Rattle.std.proofs.Common.{◌≡◌, ◌++◌, map, take}
use Rattle.rock_disk.specs.Cell.{joined}
use Rattle.rock_disk.specs.Memory.{cell_state}
use Rattle.rock_disk.proofs.memory.file.join.Given as goal

abbrev pub invariant-loop-cell : goal.invariant-loop-cell
invariant-loop-cell l = l.bytes.items ≡ l.initial.bytes.items ++ joined (take l.cell-index (map cell_state l.cells))
