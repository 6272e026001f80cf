use Rattle.line_account.proofs.UnexplainedEpochs.{never_doomed_alone}
use Rattle.line_account.proofs.absurd_epochs.nothing_is_doomed_by_itself.Goals as goal

pub returns : goal.returns
returns c start r script crew url x rules shows told faults = never_doomed_alone r script crew rules url x shows told faults
