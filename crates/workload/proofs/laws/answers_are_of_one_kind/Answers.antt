use Rattle.workload.proofs.Whole.{whole}
use Rattle.workload.proofs.laws.answers_are_of_one_kind.Goals as goal

pub returns : goal.returns
returns c answers = whole answers
