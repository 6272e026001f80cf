use Rattle.core_wiped.proofs.Wiping.{leaves_wiped}
use Rattle.core_wiped.proofs.laws.wiped_turns_are_seen.Goals as goal

pub returns : goal.returns
returns g c k s log i v t slot so st at may = leaves_wiped k s log i v t slot so st at may
