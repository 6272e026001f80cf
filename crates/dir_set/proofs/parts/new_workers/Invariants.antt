use Rattle.std.proofs.Common.{All, vec_capacity, ◌≡◌, ◌≤◌}
use Rattle.dir_set.specs.Parts.{IsWorker}
use Rattle.dir_set.proofs.parts.new_workers.Given as goal

abbrev pub invariant-loop : goal.invariant-loop
invariant-loop g l = (l.all.len ≡ l.counter) × All (IsWorker l.files 0) l.all.items × (l.workers ≤ vec_capacity l.all)
