use Rattle.std.proofs.Common.{refl}
use Rattle.file_commands.proofs.Telling.{none_ended}
use Rattle.file_commands.proofs.read.read_if_fit.Goals as goal

pub returns-then-not-is_for-clause-unfailed : goal.returns-then-not-is_for-clause-unfailed
returns-then-not-is_for-clause-unfailed g c none = none_ended (record { made = refl; ended = refl }) refl
