use Rattle.std.proofs.Common.{◌≡◌, ◌≤◌}
use Rattle.std.specs.Mem.Slots.{slots_items}
use Rattle.core_model.specs.Layout.{Setting}
use Rattle.core_model.specs.Spots.{free_below}
use Rattle.core_model.specs.State.{State}
use Rattle.closed_counts.specs.Counts.{AreWordsOf}
use Rattle.closed_counts.proofs.free.count_free.Given as goal

abbrev pub invariant-loop-slot : goal.invariant-loop-slot
invariant-loop-slot g l = record {
  few : l.free ≤ l.slot;
  counted : (k : Setting g.row.X.Denot) (s : State g.row.X.Denot) → AreWordsOf l.anchors l.slots (slots_items l.table.words) k s
      → l.free ≡ free_below k s l.slot;
}
