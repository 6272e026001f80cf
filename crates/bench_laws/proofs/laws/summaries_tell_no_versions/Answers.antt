use Rattle.bench_laws.proofs.Summed.{plainly, renamed_alike}
use Rattle.bench_laws.proofs.laws.summaries_tell_no_versions.Goals as goal

pub returns : goal.returns
returns c = record { one = renamed_alike; plain = plainly }
