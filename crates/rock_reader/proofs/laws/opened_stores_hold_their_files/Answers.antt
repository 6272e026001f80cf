use Rattle.rock_reader.proofs.FileHeld.{holds_file}
use Rattle.rock_reader.proofs.laws.opened_stores_hold_their_files.Goals as goal

pub returns : goal.returns
returns c g rebuilt many kept chain = holds_file g rebuilt many kept chain
