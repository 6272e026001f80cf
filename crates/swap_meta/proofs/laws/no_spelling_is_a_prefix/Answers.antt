use Rattle.swap_meta.proofs.Written.{prefix_same}
use Rattle.swap_meta.proofs.laws.no_spelling_is_a_prefix.Goals as goal

pub returns-clause-same : goal.returns-clause-same
returns-clause-same c = prefix_same
