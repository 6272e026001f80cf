use Rattle.core_wiped.proofs.WipesKept.{not_logged}
use Rattle.core_wiped.proofs.laws.wiped_versions_are_not_logged.Goals as goal

pub returns : goal.returns
returns g c k s log i v m a version slot l so st ws at may seen among =
    not_logged k s log i v m so st ws at may a version slot (ws.each a version slot seen) l among
