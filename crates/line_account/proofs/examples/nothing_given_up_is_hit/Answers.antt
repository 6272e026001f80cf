use Rattle.line_account.proofs.Alone.{given_up_not_hit}
use Rattle.line_account.proofs.examples.nothing_given_up_is_hit.Goals as goal

pub returns : goal.returns
returns c start r w p g url bytes body y closed tells e pq pa gq ga = given_up_not_hit r w closed tells p g url bytes body y e pq pa gq ga
