use Rattle.core_wiped.proofs.HasWipes.{any_log}
use Rattle.core_wiped.proofs.laws.wipes_hold_with_any_log.Goals as goal

pub returns : goal.returns
returns g c k s log of ws = any_log k s log of ws
