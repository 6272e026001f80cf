use Rattle.core_openings.proofs.Sounding.{opens_sound}
use Rattle.core_openings.proofs.laws.kept_openings_are_sound.Goals as goal

pub returns : goal.returns
returns c start k r s opened kept = opens_sound k r s opened kept
