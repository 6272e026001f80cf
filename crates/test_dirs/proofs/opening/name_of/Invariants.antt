use Rattle.std.proofs.Common.{length, ◌+◌, ◌≡◌}
use Rattle.std.specs.Prelude.{string_bytes}
use Rattle.test_dirs.proofs.opening.name_of.Given as goal

abbrev pub invariant-loop : goal.invariant-loop
invariant-loop l = length (string_bytes l.name) ≡ l.counter + 1
