use Rattle.std.proofs.Common.{◌-◌, ◌≤◌}
use Rattle.rebuild_model.specs.Keeping.{AreWinners}
use Rattle.plain_rebuild.proofs.keeping.winners_of.Given as goal

abbrev pub invariant-anchors : goal.invariant-anchors
invariant-anchors l = AreWinners l.slot l.images l.anchors l.anchor l.winners.items × (l.anchor ≤ l.anchors)

abbrev pub decreases-anchors : goal.decreases-anchors
decreases-anchors l = l.anchors - l.anchor
