use Rattle.rock_disk.proofs.Crashes.{one_image}
use Rattle.rock_disk.proofs.laws.synced_cells_leave_one_image.Goals as goal

pub returns : goal.returns
returns c = one_image
