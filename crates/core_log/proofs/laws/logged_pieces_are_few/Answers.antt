use Rattle.core_log.proofs.Numbers.{few_logged}
use Rattle.core_log.proofs.laws.logged_pieces_are_few.Goals as goal

pub returns : goal.returns
returns c start k s log st = few_logged k s log st.links st.numbers
