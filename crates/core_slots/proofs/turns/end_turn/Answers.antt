use Rattle.std.proofs.Common.{refl, ◌∙◌, arith, false}
use Rattle.core_table.proofs.Lists.{same_default}
use Rattle.core_slots.proofs.TurnSteps.{end_there, end_few, end_planned}
use Rattle.core_slots.proofs.turns.end_turn.Goals as goal

pub index-found-requires : goal.index-found-requires
index-found-requires c =
    let there = end_there _ _ _ c.requires.scene _ c.args.slot _ c.in-Some.ensures c.requires.cells (c.if-not-holds.ensures.0 refl) c.args.then (c.if-not-ends_so.ensures.0 refl) _ 0 c.index_of-index.ensures in omega (arith, there)

pub ended_tabs-requires : goal.ended_tabs-requires
ended_tabs-requires c = end_few _ _ _ c.requires.scene _ c.args.slot _ c.in-Some.ensures c.requires.cells false (c.if-not-holds.ensures.0 refl)

pub returns-clause-planned : goal.returns-clause-planned
returns-clause-planned c =
    let holds = c.if-not-holds.ensures.0 refl in
    let there = end_there _ _ _ c.requires.scene _ c.args.slot _ c.in-Some.ensures c.requires.cells holds c.args.then (c.if-not-ends_so.ensures.0 refl) _ 0 c.index_of-index.ensures in
    end_planned _ _ _ c.requires.scene _ c.args.slot _ c.in-Some.ensures c.requires.cells holds c.args.then (c.if-not-ends_so.ensures.0 refl) _ _ c.index_of-index.ensures _ _ _ (c.index-found.ensures ∙ same_default _ _ c.index-found.result.now 0 there)
    c.ended_tabs.ensures c.ended_sight-sight.ensures c.word_addition.ensures
