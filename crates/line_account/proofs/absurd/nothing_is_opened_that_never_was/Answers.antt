use Rattle.line_account.proofs.Unexplained.{never_opened}
use Rattle.line_account.proofs.absurd.nothing_is_opened_that_never_was.Goals as goal

pub returns : goal.returns
returns c start r script w s url rules is none sq sa = never_opened r script w rules s url is none sq sa
