use Rattle.core_wiped.proofs.Quiet.{blanked_wipes, written_wipes}
use Rattle.core_wiped.proofs.laws.held_cells_keep_wipes.Goals as goal

pub returns-clause-written : goal.returns-clause-written
returns-clause-written g c k s log i t v w old new so st ws at may = written_wipes k s log i t v old new so st ws at w may

pub returns-clause-wiped : goal.returns-clause-wiped
returns-clause-wiped g c k s log i t v f old new so st ws at may = blanked_wipes k s log i t v old new so st ws at f may
