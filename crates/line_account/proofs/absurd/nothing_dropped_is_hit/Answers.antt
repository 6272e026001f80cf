use Rattle.line_account.proofs.Unexplained.{dropped_not_hit}
use Rattle.line_account.proofs.absurd.nothing_dropped_is_hit.Goals as goal

pub returns : goal.returns
returns c start r script u w b d g url bytes body x rules y us ws bq ba dq da gq ga = dropped_not_hit r script u w rules y b d g url bytes body x us ws bq ba dq da gq ga
