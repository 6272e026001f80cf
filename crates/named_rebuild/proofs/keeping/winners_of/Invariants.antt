use Rattle.std.proofs.Common.{◌-◌, ◌≤◌}
use Rattle.named_rebuild.specs.Keeping.{AreBest}
use Rattle.named_rebuild.proofs.keeping.winners_of.Given as goal

abbrev pub invariant-anchors : goal.invariant-anchors
invariant-anchors l = AreBest l.file l.contents l.anchors l.anchor l.winners.items × (l.anchor ≤ l.anchors)

abbrev pub decreases-anchors : goal.decreases-anchors
decreases-anchors l = l.anchors - l.anchor
