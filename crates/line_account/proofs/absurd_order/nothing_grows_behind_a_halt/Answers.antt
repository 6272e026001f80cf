use Rattle.line_account.proofs.UnexplainedOrder.{still_halted}
use Rattle.line_account.proofs.absurd_order.nothing_grows_behind_a_halt.Goals as goal

pub returns : goal.returns
returns c start r script w o e m url bytes x rules is oq oa eq ea mq other = other (still_halted r script w rules o e m url x is oq oa eq mq bytes ea)
