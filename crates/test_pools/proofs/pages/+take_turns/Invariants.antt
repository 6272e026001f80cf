use Rattle.std.proofs.Common.{◌-◌}
use Rattle.test_pools.proofs.pages.+take_turns.Given as goal

abbrev pub decreases-take_turns : goal.decreases-take_turns
decreases-take_turns l = l.pages - l.from
