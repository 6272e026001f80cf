use Rattle.std.proofs.Common.{◌≡◌, length}
use Rattle.rock_rebuild.proofs.Owning.{OwnedBy}
use Rattle.rock_rebuild.proofs.owners.owners_of.Given as goal

abbrev pub invariant-winners : goal.invariant-winners
invariant-winners l = OwnedBy l.anchors l.winners l.left l.owner.items × (length l.owner.items ≡ l.slots)

abbrev pub decreases-winners : goal.decreases-winners
decreases-winners l = length l.left
