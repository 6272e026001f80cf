use Rattle.std.proofs.Common.{◌≡◌, ◌-◌, ◌≤◌, length}
use Rattle.rebuild_model.specs.Keeping.{AreOwners}
use Rattle.named_rebuild.proofs.keeping.owners_of.Given as goal

abbrev pub invariant-slots : goal.invariant-slots
invariant-slots l = (length l.owners.items ≡ l.slot) × AreOwners l.anchors l.winners l.owners.items × (l.slot ≤ l.slots)

abbrev pub decreases-slots : goal.decreases-slots
decreases-slots l = l.slots - l.slot
