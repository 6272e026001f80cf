use Rattle.core_halts.proofs.Kept.{halts_after}
use Rattle.core_halts.proofs.laws.steps_keep_halts.Goals as goal

pub returns : goal.returns
returns c start k s i v m so at may h = halts_after k s i v so at h m may
