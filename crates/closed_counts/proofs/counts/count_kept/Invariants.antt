use Rattle.std.proofs.Common.{length, sum_by, ◌≡◌, ◌≤◌}
use Rattle.std.specs.Mem.Slots.{slots_items}
use Rattle.core_model.specs.Layout.{Setting}
use Rattle.core_model.specs.State.{State}
use Rattle.closed_counts.specs.Counts.{AreWordsOf, slots_of}
use Rattle.closed_counts.proofs.Adding.{closed_below}
use Rattle.closed_counts.proofs.counts.count_kept.Given as goal

abbrev pub invariant-loop-anchor : goal.invariant-loop-anchor
invariant-loop-anchor g l = record {
  few : l.kept ≤ l.anchor;
  kept : (k : Setting g.row.X.Denot) (s : State g.row.X.Denot) → AreWordsOf l.anchors l.slots (slots_items l.table.words) k s
      → l.kept ≡ length (closed_below s l.anchor);
  held : (k : Setting g.row.X.Denot) (s : State g.row.X.Denot) → AreWordsOf l.anchors l.slots (slots_items l.table.words) k s
      → l.held ≡ sum_by (slots_of s) (closed_below s l.anchor);
}
