use Rattle.core_wiped.proofs.Over.{over}
use Rattle.core_wiped.proofs.laws.wiped_versions_are_over.Goals as goal

pub returns : goal.returns
returns g c k s log a version slot so ws seen = over k s so a version (ws.each a version slot seen).freed
