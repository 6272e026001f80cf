use Rattle.line_account.proofs.UnexplainedEpochs.{never_evicted}
use Rattle.line_account.proofs.absurd_epochs.nothing_is_evicted_that_was_not_whole.Goals as goal

pub returns : goal.returns
returns c start r script u w p g url body x rules us ws none pq pa gq ga = never_evicted r script u w rules p g us ws url body pq gq x none pa ga
