use Rattle.line_account.proofs.Alone.{lone_spent}
use Rattle.line_account.proofs.examples.a_lone_spent_number_is_the_counter.Goals as goal

pub returns : goal.returns
returns c start r w s n closed e a limit = lone_spent r w closed s n e a limit
