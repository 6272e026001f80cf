use Rattle.std.proofs.Common.{◌≡◌, ◌*◌, ◌≤◌, take, sum_by}
use Rattle.rock_rebuild.specs.Candidates.{slots_of}
use Rattle.rock_rebuild.proofs.chosen.slots_of_chosen.Given as goal

abbrev pub invariant-loop-kept : goal.invariant-loop-kept
invariant-loop-kept l = (l.slots ≡ sum_by slots_of (take l.kept-index l.best)) × (l.slots ≤ l.kept-index * 4294967295)
