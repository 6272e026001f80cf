use Rattle.line_account.proofs.Finished.{whole_finished}
use Rattle.line_account.proofs.HitVersions.{whole_kept}
use Rattle.line_account.proofs.laws.entries_given_whole_were_finished.Goals as goal

pub returns-clause-finished : goal.returns-clause-finished
returns-clause-finished c start r crew a x closed y p high = whole_finished r crew closed y a x p high

pub returns-clause-kept : goal.returns-clause-kept
returns-clause-kept c start r crew a x closed y p high halted = whole_kept r crew closed y a x p high halted
