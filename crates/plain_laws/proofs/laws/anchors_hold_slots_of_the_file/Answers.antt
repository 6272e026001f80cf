use Rattle.plain_laws.proofs.HeldOfFile.{held_of_file}
use Rattle.plain_laws.proofs.laws.anchors_hold_slots_of_the_file.Goals as goal

pub returns : goal.returns
returns c = held_of_file
