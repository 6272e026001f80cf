use Rattle.std.proofs.Common.{map, ◌≡◌}
use Rattle.std.specs.Prelude.{string_bytes}
use Rattle.test_dirs.proofs.Names.{AreLonger}
use Rattle.test_dirs.proofs.opening.names_of.Given as goal

abbrev pub invariant-loop-place : goal.invariant-loop-place
invariant-loop-place l = record {
  many : l.names.len ≡ l.place;
  longer : AreLonger (map string_bytes l.names.items);
}
