use Rattle.std.proofs.Common.{length, ◌-◌}
use Rattle.named_rebuild.proofs.Greatest.{GreatestBefore}
use Rattle.named_rebuild.proofs.keeping.greatest_of.Given as goal

abbrev pub invariant-slots : goal.invariant-slots
invariant-slots l = GreatestBefore l.file l.contents l.slot l.greatest

abbrev pub decreases-slots : goal.decreases-slots
decreases-slots l = length l.contents - l.slot
