use Rattle.std.proofs.Common.{◌≡◌}
use Rattle.std.specs.Prelude.{map}
use Rattle.std.specs.List.{range_with_len}
use Rattle.plain_model.specs.Opening.{kept_at, place_kept}
use Rattle.plain_store.proofs.opening.opened.Given as goal

abbrev pub invariant-anchors : goal.invariant-anchors
invariant-anchors l = l.places.items ≡ map (λ anchor. place_kept (kept_at l.anchors l.kept anchor)) (range_with_len 0 l.anchor)
