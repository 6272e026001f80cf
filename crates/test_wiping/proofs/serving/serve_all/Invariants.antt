use Rattle.std.proofs.Common.{◌≡◌}
use Rattle.rock_run.specs.Crews.{MayRest}
use Rattle.rock_run.specs.Offered.{offers_of}
use Rattle.store_rule.specs.Passes.{view}
use Rattle.test_wiping.proofs.serving.serve_all.Given as goal

abbrev pub invariant-loop-line : goal.invariant-loop-line
invariant-loop-line g l = record {
  store : l.shelf.store ≡ l.store;
  number : (view l.shelf.pass).pass ≡ (view l.fn.pass).pass;
  second : MayRest g.C.Cell.tells g.C.Cell.state offers_of l.store l.second;
  second_number : (view l.second).pass ≡ 1;
}
