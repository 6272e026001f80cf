use Rattle.rebuild_model.proofs.Finds.{find_is_kept, anchor_is_below, in_order, slot_is_theirs}
use Rattle.rebuild_model.proofs.laws.finds_are_known.Goals as goal

pub returns : goal.returns
returns c = record { all = find_is_kept; below = anchor_is_below; anchors = in_order; slots = slot_is_theirs }
