use Rattle.line_account.proofs.UnexplainedOrder.{never_falls}
use Rattle.line_account.proofs.absurd_order.no_stage_falls.Goals as goal

pub returns : goal.returns
returns c start r script w p g url body x rules is pq pa gq ga = never_falls r script w rules p g url body x is pq pa gq ga
