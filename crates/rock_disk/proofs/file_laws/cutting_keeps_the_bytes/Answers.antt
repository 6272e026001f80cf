use Rattle.rock_disk.proofs.Cutting.{joined_again}
use Rattle.rock_disk.proofs.file_laws.cutting_keeps_the_bytes.Goals as goal

pub returns : goal.returns
returns c = joined_again
