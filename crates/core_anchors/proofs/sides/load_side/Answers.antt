use Rattle.std.proofs.Common.{sym, ◌∙◌, arith}
use Rattle.core_table.proofs.Lists.{same_default}
use Rattle.core_anchors.proofs.SideSteps.{side_of_tab, start_found, load_planned}
use Rattle.core_anchors.proofs.sides.load_side.Goals as goal

pub index-found-requires : goal.index-found-requires
index-found-requires c =
    let there = side_of_tab _ _ _ c.requires _ _ c.in-Some.ensures (sym c.if-not-is_using.ensures) _ _ _ c.anchor_of.ensures c.index_of-index.ensures in
    omega (arith, there)

pub slot_learned-slot-requires : goal.slot_learned-slot-requires
slot_learned-slot-requires c reading start =
    let there = side_of_tab _ _ _ c.requires _ _ c.in-Some.ensures (sym c.if-not-is_using.ensures) _ _ _ c.anchor_of.ensures c.index_of-index.ensures in
    start_found _ _ _ c.requires _ _ c.in-Some.ensures reading _ start _ _ _ c.anchor_of.ensures c.index_of-index.ensures
    (c.index-found.ensures ∙ same_default _ _ c.index-found.result.now 0 there)

pub returns-clause-planned : goal.returns-clause-planned
returns-clause-planned c =
    let uses = sym c.if-not-is_using.ensures in
    let there = side_of_tab _ _ _ c.requires _ _ c.in-Some.ensures uses _ _ _ c.anchor_of.ensures c.index_of-index.ensures in
    load_planned _ _ _ c.requires _ _ c.in-Some.ensures uses _ _ _ _ _ _ _ c.anchor_of.ensures c.index_of-index.ensures c.side_index.ensures
    (c.index-found.ensures ∙ same_default _ _ c.index-found.result.now 0 there) c.slot_learned-slot.ensures c.name_seen-sight.ensures _ c.word_addition.ensures
