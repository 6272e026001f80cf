use Rattle.wiped_entries.proofs.Gone.{left_while}
use Rattle.wiped_entries.proofs.laws.crashes_now_are_crashes_within.Goals as goal

pub returns : goal.returns
returns g c k b s log images so cells left = left_while k b s log so cells images left
