use Rattle.std.proofs.Common.{rules}
use Rattle.std.proofs.lemmas.Grind.{common_steps}
use Rattle.std.proofs.Common.{arith}
use Rattle.workload.specs.Urls.{url_of}
use Rattle.workload.proofs.urls.url_of.Goals as goal

pub returns : goal.returns
unfolding url_of
returns c = first_of (search rules, grind (arith, common_steps))
