use Rattle.line_account.proofs.Printing.{spent_bounds}
use Rattle.line_account.proofs.laws.spent_numbers_have_bounds.Goals as goal

pub returns : goal.returns
returns c start r crew n closed p = spent_bounds r crew closed n p
