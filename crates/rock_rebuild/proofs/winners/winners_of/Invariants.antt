use Rattle.std.proofs.Common.{ℕ, List}
use Rattle.rebuild_model.specs.Keeping.{AreWinners}
use Rattle.rock_rebuild.specs.Winners.{AreKept}
use Rattle.rock_rebuild.proofs.winners.winners_of.Given as goal

abbrev pub invariant-loop-place : goal.invariant-loop-place
invariant-loop-place l = (slot : ℕ) (images : List (List ℕ)) (anchors : ℕ) → AreKept slot images anchors l.found l.best → AreWinners slot images anchors l.place-index l.winners.items
