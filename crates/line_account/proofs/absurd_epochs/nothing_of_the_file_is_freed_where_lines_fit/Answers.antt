use Rattle.line_account.proofs.UnexplainedEpochs.{never_freed_there}
use Rattle.line_account.proofs.absurd_epochs.nothing_of_the_file_is_freed_where_lines_fit.Goals as goal

pub returns : goal.returns
returns c start r script u w s url body held x rules fit is low sq sa of = never_freed_there r script u w rules fit s is url x low body held sq sa of
