use Rattle.std.proofs.Common.{◌<◌, ◌≡◌, ℕ}
use Rattle.store_serve.specs.Growing.{GrowsTo}
use Rattle.store_rule.specs.Passes.{hand, view}
use Rattle.store_serve.specs.Tabs.{IsFree}
use Rattle.worker_shelf.specs.Shelves.{AllHold, LeftBelow}
use Rattle.worker_shelf.proofs.leaving.leave_tabs.Given as goal

abbrev pub invariant-loop-tab : goal.invariant-loop-tab
invariant-loop-tab g l = record {
  left : LeftBelow g.C.Cell.tells g.C.Cell.state g.O.Origin.offers l.store l.tab l.fn.pass l.pass;
  holds : AllHold g.C.Cell.tells g.C.Cell.state g.O.Origin.offers l.store l.pass l.tabs;
  free : (t : ℕ) → t < l.tab → IsFree l.pass t;
  keeps : GrowsTo (view l.fn.pass) (view l.pass);
  places : hand l.pass ≡ hand l.fn.pass;
  cells : l.pass.cells ≡ l.fn.pass.cells;
}
