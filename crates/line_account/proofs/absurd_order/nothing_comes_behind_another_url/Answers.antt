use Rattle.line_account.proofs.UnexplainedOrder.{still_other}
use Rattle.line_account.proofs.absurd_order.nothing_comes_behind_another_url.Goals as goal

pub returns : goal.returns
returns c start r script w o e m url x rules is oq oa eq ea mq ne = ne (still_other r script w rules o e m url x is oq oa eq mq ea)
