use Rattle.plain_laws.proofs.ServedAlone.{served_by, served_rise}
use Rattle.plain_laws.proofs.laws.workers_are_served_alone.Goals as goal

pub returns : goal.returns
returns c = record { told = served_by; rise = served_rise }
