use Rattle.std.proofs.Common.{length, ◌-◌}
use Rattle.core_lives.proofs.Leaving.{LeftBelow}
use Rattle.core_lives.proofs.left.all_left.Given as goal

abbrev pub invariant-slots : goal.invariant-slots
invariant-slots l = LeftBelow l.core l.first l.picks l.slot l.left.items

abbrev pub decreases-slots : goal.decreases-slots
decreases-slots l = length l.picks - l.slot
