use Rattle.line_account.proofs.UnexplainedEpochs.{never_freed}
use Rattle.line_account.proofs.absurd_epochs.nothing_is_given_back_by_itself.Goals as goal

pub returns : goal.returns
returns c start r script w s url body held x rules is sq sa of = never_freed r script w rules s is url body held x sq sa of
