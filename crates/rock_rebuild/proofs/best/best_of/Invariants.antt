use Rattle.std.proofs.Common.{◌≡◌, length, map}
use Rattle.std.specs.List.Sorted.{IsStrictlyIncreasing}
use Rattle.rock_rebuild.specs.Best.{AreBest}
use Rattle.rock_rebuild.proofs.best.best_of.Given as goal

abbrev pub invariant-loop-place : goal.invariant-loop-place
invariant-loop-place l = (IsStrictlyIncreasing (map (λ f. f.first) l.found) → AreBest l.anchors l.found l.place l.best.items) × (length l.best.items ≡ l.anchors)
