use Rattle.line_account.proofs.Printing.{added_count}
use Rattle.line_account.proofs.laws.added_counts_are_exact.Goals as goal

pub returns : goal.returns
returns c start r crew first url body tab asked count closed p offers = added_count r crew closed first url body tab asked count p offers
