use Rattle.core_wiped.proofs.Opening.{no_wipes}
use Rattle.core_wiped.proofs.laws.openings_have_no_wipes.Goals as goal

pub returns : goal.returns
returns g c k r s is o = no_wipes k r s is o
