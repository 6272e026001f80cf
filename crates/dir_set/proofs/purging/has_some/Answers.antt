use Rattle.std.proofs.Common.{arith, length, ◌<◌, ◌≤◌, ⊎_elim}
use Rattle.std.proofs.lemmas.Bool.{cases_lt}
use Rattle.dir_set.proofs.Said.{answer_past}
use Rattle.dir_set.proofs.purging.has_some.Goals as goal

pub returns-clause-none : goal.returns-clause-none
returns-clause-none c is d = ⊎_elim (λ (lt : d < length c.args.left.now). c.loop-epoch.invariant d (omega arith)) (λ (le : length c.args.left.now ≤ d). answer_past c.args.left.now d le) (cases_lt d (length c.args.left.now))
