use Rattle.rock_disk.proofs.Cutting.{same_bytes}
use Rattle.rock_disk.proofs.Homes.{none_away_kept}
use Rattle.rock_disk.proofs.file_laws.kept_files_have_their_bytes.Goals as goal

pub returns-clause-bytes : goal.returns-clause-bytes
returns-clause-bytes c = same_bytes

pub returns-clause-home : goal.returns-clause-home
returns-clause-home c = none_away_kept
