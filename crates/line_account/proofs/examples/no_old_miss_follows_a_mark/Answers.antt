use Rattle.line_account.proofs.Alone.{no_old_miss}
use Rattle.line_account.proofs.examples.no_old_miss_follows_a_mark.Goals as goal

pub returns : goal.returns
returns c start r first end other last p m n h url body x cause c2 o pq pa hands gq ga = no_old_miss r first end other last p m n h url body x cause c2 o pq pa hands gq ga
