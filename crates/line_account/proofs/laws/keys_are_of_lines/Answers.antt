use Rattle.line_account.proofs.Printing.{key_kept, key_of_new, key_of_old}
use Rattle.line_account.proofs.laws.keys_are_of_lines.Goals as goal

pub returns-clause-old : goal.returns-clause-old
returns-clause-old c start r crew a epoch key url closed p low old = key_of_old r crew closed a epoch key url p low old

pub returns-clause-new : goal.returns-clause-new
returns-clause-new c start r crew a epoch key closed p high = key_of_new r crew closed a epoch key p high

pub returns-clause-kept : goal.returns-clause-kept
returns-clause-kept c start r crew a epoch key closed p low = key_kept r crew closed a epoch key p low
