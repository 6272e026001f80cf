use Rattle.line_account.proofs.UnexplainedEpochs.{never_empty}
use Rattle.line_account.proofs.absurd_epochs.no_begun_version_is_at_empty.Goals as goal

pub returns : goal.returns
returns c start r script u w p g url body x rules us ws pq pa gq ga = never_empty r script u w rules p g us ws url body pq gq x pa ga
