use Rattle.line_account.proofs.Printing.{other_url}
use Rattle.line_account.proofs.laws.other_urls_have_the_key.Goals as goal

pub returns : goal.returns
returns c start r crew url closed y p = other_url r crew closed y url p
