use Rattle.line_account.proofs.UnexplainedDraws.{never_later}
use Rattle.line_account.proofs.absurd_order.nothing_given_up_before_is_later.Goals as goal

pub returns : goal.returns
returns c start r script u w p q g url other body next x y rules us ws apart pq pa qq qa gq ga low = never_later r script u w rules p q g url other body next x y us ws apart qq qa gq ga low
