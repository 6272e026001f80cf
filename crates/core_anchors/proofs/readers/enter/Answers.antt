use Rattle.std.proofs.Common.{arith, ap, ◌∙◌, Some}
use Rattle.core_model.specs.declared.tab.Tab.{Tab}
use Rattle.core_table.specs.declared.content.Content.{Content}
use Rattle.core_anchors.proofs.ReaderSteps.{room_for_one, enter_planned}
use Rattle.core_anchors.proofs.readers.enter.Goals as goal

pub overflow_add-word : goal.overflow_add-word
overflow_add-word c =
    let there = c.in-Some.ensures ∙ ap (λ (x : Tab Content). Some x) c.in-Free.is in
    let room = room_for_one _ _ _ c.requires _ c.if-anchor-opening.false _ c.word_at-word.ensures.number c.word_at-word.ensures.in_range _ there in
    omega (arith, room)

pub returns-clause-planned : goal.returns-clause-planned
returns-clause-planned c =
    let there = c.in-Some.ensures ∙ ap (λ (x : Tab Content). Some x) c.in-Free.is in
    enter_planned _ _ _ c.requires _ c.if-anchor-opening.false _ c.word_at-word.ensures.number c.word_at-word.ensures.in_range _ there _ _ _ _ _ _ _ _ _
    c.pack-found.ensures.number c.pack-left.ensures.number c.readers_here.ensures c.entered.ensures c.met.ensures c.epoch_bits-2.ensures c.epoch_bits.ensures c.anchor_addition.ensures c.index_of.ensures
