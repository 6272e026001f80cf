use Rattle.std.proofs.Common.{◌≡◌, ◌≤◌, take, sum_by}
use Rattle.core_model.specs.Tabs.{counts}
use Rattle.core_anchors.proofs.recall.count_at.Given as goal

abbrev pub invariant-loop-tab : goal.invariant-loop-tab
invariant-loop-tab l = record {
  few : l.readers ≤ l.tab-index;
  counted : l.readers ≡ sum_by (counts l.anchor) (take l.tab-index l.tabs);
}
