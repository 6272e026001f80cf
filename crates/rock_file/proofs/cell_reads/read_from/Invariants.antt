use Rattle.std.proofs.Common.{◌≤◌, length}
use Rattle.rock_file.proofs.cell_reads.read_from.Given as goal

abbrev pub invariant-loop : goal.invariant-loop
invariant-loop g l = l.count ≤ length l.buf
