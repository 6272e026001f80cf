use Rattle.std.proofs.Common.{◌≡◌, length, map, take}
use Rattle.rock_disk.specs.Reads.{width_of}
use Rattle.rock_file.specs.Cell.{cell_state}
use Rattle.test_files.proofs.together.buffer_for.Given as goal

abbrev pub invariant-loop-place : goal.invariant-loop-place
invariant-loop-place l = length l.buf.items ≡ width_of (take l.place (map cell_state l.cells))
