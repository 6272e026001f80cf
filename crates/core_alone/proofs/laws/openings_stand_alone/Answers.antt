use Rattle.core_alone.proofs.Opened.{alone_new}
use Rattle.core_alone.proofs.laws.openings_stand_alone.Goals as goal

pub returns : goal.returns
returns c start left k s words views = alone_new left k s words views
