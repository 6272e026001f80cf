use Rattle.core_model.proofs.laws.written_pieces_are_home.Goals as goal
use Rattle.core_model.proofs.Holders.{written_home}

pub returns : goal.returns
returns c start k s i t w p so q goes_on written chosen = written_home k s so i t w p q goes_on written chosen
