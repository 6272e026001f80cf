use Rattle.core_halts.proofs.Opened.{halts_new}
use Rattle.core_halts.proofs.laws.openings_have_no_halts.Goals as goal

pub returns : goal.returns
returns c start k s views = halts_new k s views
