use Rattle.line_account.proofs.Unexplained.{left_not_hit}
use Rattle.line_account.proofs.absurd.nothing_left_is_hit.Goals as goal

pub returns : goal.returns
returns c start r script u w b g url bytes body x rules y us ws bq ba gq ga = left_not_hit r script u w rules y b g url bytes body x us ws bq ba gq ga
