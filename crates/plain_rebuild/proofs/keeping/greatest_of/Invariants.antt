use Rattle.std.proofs.Common.{length, ◌-◌}
use Rattle.plain_rebuild.proofs.Greatest.{GreatestBefore}
use Rattle.plain_rebuild.proofs.keeping.greatest_of.Given as goal

abbrev pub invariant-slots : goal.invariant-slots
invariant-slots l = GreatestBefore l.slot l.images l.s l.greatest

abbrev pub decreases-slots : goal.decreases-slots
decreases-slots l = length l.images - l.s
