use Rattle.core_log.proofs.HeldVersions.{not_logged}
use Rattle.core_log.proofs.laws.held_versions_are_not_logged.Goals as goal

pub returns : goal.returns
returns c start k s log i v l so st at among held = not_logged k s log i v l so st at among held
