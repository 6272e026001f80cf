use Rattle.line_account.proofs.Printing.{bytes_stored}
use Rattle.line_account.proofs.laws.bytes_are_of_lines.Goals as goal

pub returns : goal.returns
returns c start r crew first url closed y p = bytes_stored r crew closed y first url p
