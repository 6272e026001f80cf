use Rattle.std.proofs.Common.{length, ◌-◌, ◌≤◌}
use Rattle.named_rebuild.specs.Keeping.{BestBefore}
use Rattle.named_rebuild.proofs.keeping.winner_at.Given as goal

abbrev pub invariant-slots : goal.invariant-slots
invariant-slots l = BestBefore l.file l.contents l.anchors l.anchor l.first l.best × (l.first ≤ length l.contents)

abbrev pub decreases-slots : goal.decreases-slots
decreases-slots l = length l.contents - l.first
