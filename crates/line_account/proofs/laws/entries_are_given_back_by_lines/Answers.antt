use Rattle.line_account.proofs.Printing.{given_back}
use Rattle.line_account.proofs.laws.entries_are_given_back_by_lines.Goals as goal

pub returns : goal.returns
returns c start r crew a e closed p undoomed four = given_back r crew closed a e p undoomed four
