use Rattle.core_model.proofs.laws.epochs_have_their_deeds.Goals as goal
use Rattle.core_model.proofs.DeedsTell.{known_old, known_quiet, known_taken, known_halted, known_begun, known_grown, known_closed, known_evicted}

pub returns-clause-old : goal.returns-clause-old
returns-clause-old c start k s a e so h low = known_old k s so a e h low

pub returns-clause-quiet : goal.returns-clause-quiet
returns-clause-quiet c start k s a e so h low = known_quiet k s so a e h low

pub returns-clause-taken : goal.returns-clause-taken
returns-clause-taken c start k s a e so h high = known_taken k s so a e h high

pub returns-clause-halted : goal.returns-clause-halted
returns-clause-halted c start k s a e so h four = known_halted k s so a e h four

pub returns-clause-begun : goal.returns-clause-begun
returns-clause-begun c start k s a e so h high = known_begun k s so a e h high

pub returns-clause-grown : goal.returns-clause-grown
returns-clause-grown c start k s a e so h doom = known_grown k s so a e h doom

pub returns-clause-closed : goal.returns-clause-closed
returns-clause-closed c start k s a e so h high three undoomed = known_closed k s so a e h high three undoomed

pub returns-clause-evicted : goal.returns-clause-evicted
returns-clause-evicted c start k s a version so high h = known_evicted k s so a version high h
