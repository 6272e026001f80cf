use Rattle.line_account.proofs.Printing.{counted_readers}
use Rattle.line_account.proofs.laws.busy_words_count_readers.Goals as goal

pub returns : goal.returns
returns c start r crew a looked other closed p = counted_readers r crew closed a looked other p
