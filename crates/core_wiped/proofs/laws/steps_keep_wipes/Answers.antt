use Rattle.core_wiped.proofs.WipesKept.{wipes_kept}
use Rattle.core_wiped.proofs.laws.steps_keep_wipes.Goals as goal

pub returns : goal.returns
returns g c k s log i v m so st ws at may = wipes_kept k s log i v m so st ws at may
