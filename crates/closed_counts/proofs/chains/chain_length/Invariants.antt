use Rattle.std.proofs.Common.{◌-◌}
use Rattle.std.specs.Mem.Slots.{slots_items}
use Rattle.core_model.specs.Layout.{Setting}
use Rattle.core_model.specs.State.{State}
use Rattle.closed_counts.specs.Counts.{AreWordsOf}
use Rattle.closed_counts.proofs.Walking.{IsWalked}
use Rattle.closed_counts.proofs.chains.chain_length.Given as goal

abbrev pub invariant-loop-next : goal.invariant-loop-next
invariant-loop-next g l = (k : Setting g.row.X.Denot) (s : State g.row.X.Denot)
    → AreWordsOf l.anchors l.slots (slots_items l.table.words) k s → IsWalked k s l.anchor l.slot l.count

abbrev pub decreases-loop-next : goal.decreases-loop-next
decreases-loop-next g l = l.slots - l.count
