use Rattle.std.proofs.Common.{length}
use Rattle.plain_rebuild.proofs.Summing.{Summed}
use Rattle.plain_rebuild.proofs.plain.whole_size.Given as goal

abbrev pub invariant-slots : goal.invariant-slots
invariant-slots l = Summed l.slot l.images l.chain l.left l.size

abbrev pub decreases-slots : goal.decreases-slots
decreases-slots l = length l.left
