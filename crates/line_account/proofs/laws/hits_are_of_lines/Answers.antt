use Rattle.line_account.proofs.Printing.{hit_of_new, hit_of_old}
use Rattle.line_account.proofs.laws.hits_are_of_lines.Goals as goal

pub returns-clause-old : goal.returns-clause-old
returns-clause-old c start r crew a x url bytes closed y p low = hit_of_old r crew closed y a x url bytes p low

pub returns-clause-new : goal.returns-clause-new
returns-clause-new c start r crew a x url bytes closed y p high = hit_of_new r crew closed y a x url bytes p high
