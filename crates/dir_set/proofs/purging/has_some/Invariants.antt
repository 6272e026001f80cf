use Rattle.std.proofs.Common.{None, ◌<◌, ◌≡◌, ℕ}
use Rattle.dir_set.specs.Dirs.{answer_at}
use Rattle.dir_set.proofs.purging.has_some.Given as goal

abbrev pub invariant-loop-epoch : goal.invariant-loop-epoch
invariant-loop-epoch l = (k : ℕ) → k < l.epoch-index → answer_at l.left k ≡ None
