use Rattle.line_account.proofs.UnexplainedEpochs.{never_doomed}
use Rattle.line_account.proofs.absurd_epochs.nothing_is_doomed_at_taken.Goals as goal

pub returns : goal.returns
returns c start r script w s url x rules is sq sa = never_doomed r script w rules s is url x sq sa
