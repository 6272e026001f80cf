use Rattle.std.proofs.Common.{length, ◌-◌, ◌≤◌}
use Rattle.rebuild_model.specs.Keeping.{BestBefore}
use Rattle.plain_rebuild.proofs.keeping.winner_at.Given as goal

abbrev pub invariant-slots : goal.invariant-slots
invariant-slots l = BestBefore l.slot l.images l.anchors l.anchor l.first l.best × (l.first ≤ length l.images)

abbrev pub decreases-slots : goal.decreases-slots
decreases-slots l = length l.images - l.first
