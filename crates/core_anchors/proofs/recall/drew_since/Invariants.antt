use Rattle.std.proofs.Common.{◌≡◌, take, reverse}
use Rattle.core_model.specs.Trails.{drew_since}
use Rattle.core_anchors.proofs.recall.drew_since.Given as goal

abbrev pub invariant-loop-item : goal.invariant-loop-item
invariant-loop-item l = l.drew ≡ drew_since l.version l.anchor (reverse (take l.item-index l.trail))
