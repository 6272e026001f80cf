use Rattle.line_account.proofs.Unexplained.{never_before}
use Rattle.line_account.proofs.absurd.nothing_is_hit_before_it_is_stored.Goals as goal

pub returns : goal.returns
returns c start r script w g p url bytes body x rules is gq ga pq pa = never_before r script w rules g p url bytes body x is gq ga pq pa
