use Rattle.std.proofs.Common.{ap}
use Rattle.core_model.specs.declared.view.View.{View}
use Rattle.pass_laws.proofs.Counting.{counts, dooms}
use Rattle.pass_laws.proofs.steps.enterings_count_and_dooms_doom.Goals as goal

pub returns-clause-counts : goal.returns-clause-counts
returns-clause-counts c start g v w m n a step is more = counts g v w m n a step is more

pub returns-clause-dooms : goal.returns-clause-dooms
returns-clause-dooms c start g v w m n a step is was left = dooms g v w m n a step is was left

pub returns-clause-entered : goal.returns-clause-entered
returns-clause-entered c start g v w n t a step = ap View.deeds step.leaves

pub returns-clause-doomed : goal.returns-clause-doomed
returns-clause-doomed c start g v w n t step = ap View.deeds step.leaves
