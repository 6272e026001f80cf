use Rattle.line_account.proofs.UnexplainedEpochs.{never_lost}
use Rattle.line_account.proofs.absurd_epochs.nothing_of_the_file_is_lost_where_lines_fit.Goals as goal

pub returns : goal.returns
returns c start r script u w g url x rules fit is low gq ga = never_lost r script u w rules fit g is url x low gq ga
