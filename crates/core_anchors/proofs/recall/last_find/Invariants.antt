use Rattle.std.proofs.Common.{◌≡◌, take, reverse, is_some, unwrap_or}
use Rattle.core_model.specs.Trails.{has_find, last_find}
use Rattle.core_anchors.proofs.recall.last_find.Given as goal

abbrev pub invariant-loop-item : goal.invariant-loop-item
invariant-loop-item l = record {
  some_ : is_some l.last ≡ has_find l.anchor (reverse (take l.item-index l.trail));
  value : unwrap_or l.last 0 ≡ last_find l.anchor (reverse (take l.item-index l.trail));
}
