use Rattle.plain_laws.proofs.Hitting.{hit}
use Rattle.plain_laws.proofs.laws.hits_are_whole.Goals as goal

pub returns : goal.returns
returns c = hit
