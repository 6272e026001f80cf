use Rattle.std.proofs.Common.{◌≡◌, map}
use Rattle.rock_disk.specs.Memory.{cell_state}
use Rattle.test_disks.proofs.volumes.read_cells.Given as goal

abbrev pub invariant-loop-i : goal.invariant-loop-i
invariant-loop-i l = map cell_state l.cells ≡ map cell_state l.initial.cells
