use Rattle.line_account.proofs.UnexplainedOrder.{still_ended}
use Rattle.line_account.proofs.absurd_order.nothing_comes_behind_an_end.Goals as goal

pub returns : goal.returns
returns c start r script w o e m url bytes x rules is oq oa eq ea mq ne = ne (still_ended r script w rules o e m url x is oq oa eq mq bytes ea)
