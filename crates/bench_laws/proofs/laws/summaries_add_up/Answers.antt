use Rattle.bench_laws.proofs.Summed.{added}
use Rattle.bench_laws.proofs.laws.summaries_add_up.Goals as goal

pub returns : goal.returns
returns c = added
