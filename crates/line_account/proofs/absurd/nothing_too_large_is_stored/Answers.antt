use Rattle.line_account.proofs.Unexplained.{never_stored}
use Rattle.line_account.proofs.absurd.nothing_too_large_is_stored.Goals as goal

pub returns : goal.returns
returns c start r script w p url body x rules is pq pa = never_stored r script w rules p url body x is pq pa
