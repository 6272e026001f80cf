use Rattle.std.proofs.Common.{◌≡◌}
use Rattle.test_dirs.proofs.opening.origins_of.Given as goal

abbrev pub invariant-loop : goal.invariant-loop
invariant-loop l = l.origins.len ≡ l.counter
