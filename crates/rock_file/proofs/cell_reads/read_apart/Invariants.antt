use Rattle.std.proofs.Common.{◌≡◌, map, take}
use Rattle.rock_disk.specs.Reads.{width_of}
use Rattle.rock_file.specs.Cell.{cell_state}
use Rattle.rock_file.proofs.cell_reads.read_apart.Given as goal

abbrev pub invariant-loop-place : goal.invariant-loop-place
invariant-loop-place g l = l.end ≡ width_of (take l.place (map cell_state l.cells))
