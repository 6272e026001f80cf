use Rattle.std.proofs.Common.{◌≡◌}
use Rattle.store_rule.specs.Passes.{view}
use Rattle.test_closings.proofs.closing.serve_all.Given as goal

abbrev pub invariant-loop-line : goal.invariant-loop-line
invariant-loop-line g l = record {
  store : l.shelf.store ≡ l.store;
  number : (view l.shelf.pass).pass ≡ (view l.fn.pass).pass;
}
