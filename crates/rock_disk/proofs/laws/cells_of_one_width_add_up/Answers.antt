use Rattle.rock_disk.proofs.Together.{one_width}
use Rattle.rock_disk.proofs.laws.cells_of_one_width_add_up.Goals as goal

pub returns : goal.returns
returns c = one_width
