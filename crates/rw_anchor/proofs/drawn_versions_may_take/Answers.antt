use Rattle.rw_anchor.proofs.Drawing.{may_take}
use Rattle.rw_anchor.proofs.drawn_versions_may_take.Goals as goal

pub returns : goal.returns
returns g c k u w version t a drew lt below free found fit = may_take k u w version drew t a lt below free found fit
