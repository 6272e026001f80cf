use Rattle.swap_meta.proofs.Written.{front_spelled}
use Rattle.swap_meta.proofs.laws.written_meta_is_spelled.Goals as goal

pub returns-clause-spelled : goal.returns-clause-spelled
returns-clause-spelled c = front_spelled
