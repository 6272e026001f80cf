use Rattle.line_account.proofs.UnexplainedEpochs.{never_held}
use Rattle.line_account.proofs.absurd_epochs.nothing_is_given_back_that_never_was.Goals as goal

pub returns : goal.returns
returns c start r script w s url body held rules is none sq sa of = never_held r script w rules s is url body held none sq sa of
