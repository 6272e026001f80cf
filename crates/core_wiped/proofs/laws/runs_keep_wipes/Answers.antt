use Rattle.core_wiped.proofs.WipesKept.{runs_kept}
use Rattle.core_wiped.proofs.laws.runs_keep_wipes.Goals as goal

pub returns : goal.returns
returns g c k s log steps t more so st ws run = runs_kept k s log steps t more so st ws run
