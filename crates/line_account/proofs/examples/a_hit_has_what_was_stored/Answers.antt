use Rattle.line_account.proofs.Alone.{hit_is_stored}
use Rattle.line_account.proofs.examples.a_hit_has_what_was_stored.Goals as goal

pub returns : goal.returns
returns c start r w begin last p h url bytes body x y closed tells o pq pa gq ga = hit_is_stored r w closed tells begin last p h url bytes body x y o pq pa gq ga
