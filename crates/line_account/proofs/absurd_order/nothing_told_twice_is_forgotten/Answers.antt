use Rattle.line_account.proofs.UnexplainedOrder.{never_forgotten}
use Rattle.line_account.proofs.absurd_order.nothing_told_twice_is_forgotten.Goals as goal

pub returns : goal.returns
returns _ start r script u v w p a b c d g url body x m n rules us vs ws pq pa aq bq ba cq dq da gq ga = never_forgotten r script u v w rules p a b c d g us vs ws m n aq bq ba cq dq da url body x pq pa gq ga
