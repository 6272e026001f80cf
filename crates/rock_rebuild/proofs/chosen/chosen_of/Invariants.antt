use Rattle.std.proofs.Common.{◌≡◌, List, length, map}
use Rattle.std.specs.List.Sorted.{IsStrictlyIncreasing}
use Rattle.rebuild_model.specs.declared.found.Found.{Found}
use Rattle.rock_rebuild.specs.Candidates.{candidate_of, AreBestAs}
use Rattle.rock_rebuild.proofs.chosen.chosen_of.Given as goal

abbrev pub invariant-loop-place : goal.invariant-loop-place
invariant-loop-place l =
    ((found : List Found) → IsStrictlyIncreasing (map (λ f. f.first) found) → l.candidates ≡ map (candidate_of l.anchors) found → AreBestAs l.anchors found l.place l.best.items)
    × (length l.best.items ≡ l.anchors)
