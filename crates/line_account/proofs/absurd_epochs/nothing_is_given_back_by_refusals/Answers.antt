use Rattle.line_account.proofs.UnexplainedEpochs.{never_refused_away}
use Rattle.line_account.proofs.absurd_epochs.nothing_is_given_back_by_refusals.Goals as goal

pub returns : goal.returns
returns c start r script crew a x held rules all p of = never_refused_away r script crew rules a x held all p of
