use Rattle.std.proofs.Common.{◌≡◌, length}
use Rattle.worker_pool.proofs.Setting.{AreSetters}
use Rattle.worker_pool.proofs.setters.setters_of.Given as goal

abbrev pub invariant-loop-line : goal.invariant-loop-line
invariant-loop-line l = AreSetters l.lines l.setters l.line-index × (length l.setters ≡ 64)
