use Rattle.line_account.proofs.Printing.{given_back_halted, given_back_new, never_full}
use Rattle.line_account.proofs.laws.runs_that_fit_lose_nothing.Goals as goal

pub returns-clause-given_back : goal.returns-clause-given_back
returns-clause-given_back c start r crew a e closed fit p undoomed four = given_back_halted r crew closed fit a e p undoomed four

pub returns-clause-full : goal.returns-clause-full
returns-clause-full c start r crew closed fit p = never_full r crew closed fit p

pub returns-clause-old : goal.returns-clause-old
returns-clause-old c start r crew a e closed fit p undoomed four = given_back_new r crew closed fit a e p undoomed four
