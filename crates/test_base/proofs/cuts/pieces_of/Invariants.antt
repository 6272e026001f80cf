use Rattle.std.proofs.Common.{◌≤◌, length}
use Rattle.test_base.proofs.cuts.pieces_of.Given as goal

abbrev pub invariant-loop-part : goal.invariant-loop-part
invariant-loop-part l = l.cutter.room ≤ length l.page.items
