use Rattle.line_account.proofs.Versions.{stored_by_line}
use Rattle.line_account.proofs.laws.entries_are_stored_by_lines.Goals as goal

pub returns : goal.returns
returns c start r crew a e closed p high undoomed three = stored_by_line r crew closed a e p high undoomed three
