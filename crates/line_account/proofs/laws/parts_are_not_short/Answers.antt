use Rattle.line_account.proofs.Parts.{not_short}
use Rattle.line_account.proofs.laws.parts_are_not_short.Goals as goal

pub returns : goal.returns
returns c start r crew closed have tells = not_short r crew closed have tells
