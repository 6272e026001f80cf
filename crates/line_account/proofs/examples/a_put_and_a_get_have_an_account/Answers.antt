use Rattle.line_account.proofs.PutAndGet.{has_account}
use Rattle.line_account.proofs.examples.a_put_and_a_get_have_an_account.Goals as goal

pub returns : goal.returns
returns c start r url o = has_account r url o
