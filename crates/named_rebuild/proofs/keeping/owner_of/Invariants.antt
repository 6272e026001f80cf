use Rattle.std.proofs.Common.{length}
use Rattle.plain_rebuild.proofs.Owners.{SoughtIn}
use Rattle.named_rebuild.proofs.keeping.owner_of.Given as goal

abbrev pub invariant-winners : goal.invariant-winners
invariant-winners l = SoughtIn l.winners l.left l.slot

abbrev pub decreases-winners : goal.decreases-winners
decreases-winners l = length l.left
