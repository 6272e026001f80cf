use Rattle.std.proofs.Common.{◌≡◌, take, reverse}
use Rattle.core_model.specs.Trails.{last_count}
use Rattle.core_anchors.proofs.recall.last_count.Given as goal

abbrev pub invariant-loop-item : goal.invariant-loop-item
invariant-loop-item l = l.count ≡ last_count (reverse (take l.item-index l.trail))
