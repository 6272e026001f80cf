use Rattle.core_wiped.proofs.Following.{begins_nowhere}
use Rattle.core_wiped.proofs.laws.wiped_entries_begin_nowhere.Goals as goal

pub returns : goal.returns
returns g c k s log a version wiped slot d x st ws seen cell there = begins_nowhere k s log a version wiped slot d x st ws seen cell there
