use Rattle.store_rule.proofs.AddingUp.{has_left}
use Rattle.store_rule.proofs.MyWords.{found_mine}
use Rattle.pass_laws.proofs.steps.words_are_known.Goals as goal

pub returns-clause-found : goal.returns-clause-found
returns-clause-found c start g v w m n p step mine is = found_mine g v w m n p step mine is

pub returns-clause-left : goal.returns-clause-left
returns-clause-left c start g v w m n p step is = has_left g v w m n p step is
