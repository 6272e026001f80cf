use Rattle.core_alone.proofs.Kept.{stands_after}
use Rattle.core_alone.proofs.laws.steps_keep_what_is_alone.Goals as goal

pub returns : goal.returns
returns c start left k s i v m so at may alone come = stands_after left k s i v m so at may alone come
