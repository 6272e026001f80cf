use Rattle.line_account.proofs.Printing.{end_of_begun}
use Rattle.line_account.proofs.laws.ends_tell_the_version_begun.Goals as goal

pub returns : goal.returns
returns c start r crew version x closed p = end_of_begun r crew closed version x p
