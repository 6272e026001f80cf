use Rattle.std.proofs.Common.{◌≡◌, length}
use Rattle.plain_model.specs.Opening.{kept_at}
use Rattle.plain_store.proofs.opening.place_at.Given as goal

abbrev pub invariant-kept : goal.invariant-kept
invariant-kept l = kept_at l.anchors l.kept l.anchor ≡ kept_at l.anchors l.left l.anchor

abbrev pub decreases-kept : goal.decreases-kept
decreases-kept l = length l.left
