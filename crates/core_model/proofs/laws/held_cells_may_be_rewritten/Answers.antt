use Rattle.core_model.proofs.laws.held_cells_may_be_rewritten.Goals as goal
use Rattle.core_model.proofs.HeldCells.{rewritten_sound, wiped_sound}

pub returns-clause-written : goal.returns-clause-written
returns-clause-written c start k s i t v w old new so at pass may = rewritten_sound k s i v so at pass t w old new may

pub returns-clause-wiped : goal.returns-clause-wiped
returns-clause-wiped c start k s i t v f old new so at pass may = wiped_sound k s i v so at pass t f old new may
