use Rattle.std.proofs.Common.{arith}
use Rattle.workload.proofs.Whole.{whole}
use Rattle.workload.proofs.summary.summary_of.Goals as goal

pub returns-clause-whole : goal.returns-clause-whole
returns-clause-whole c = omega (arith, whole c.args.answers.now, c.count_of.ensures, c.count_of-2.ensures, c.count_of-3.ensures, c.count_of-4.ensures, c.count_of-5.ensures, c.count_of-6.ensures)
