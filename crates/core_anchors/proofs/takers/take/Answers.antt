use Rattle.std.proofs.Common.{◌<◌, ◌∙◌, arith, length}
use Rattle.core_model.specs.Chains.{no_chain}
use Rattle.core_table.proofs.Lists.{same_default}
use Rattle.core_anchors.proofs.TakerSteps.{take_won}
use Rattle.core_anchors.proofs.takers.take.Goals as goal

pub returns-clause-planned : goal.returns-clause-planned
returns-clause-planned c =
    let there : c.args.anchor < length c.args.table.now.chains.items = let many = c.requires.sound.shaped.chains in omega arith in
    take_won _ _ _ c.requires _ c.if-anchor-opening.false _ c.word_at-word.ensures.number c.word_at-word.ensures.in_range _ c.in-Some.ensures.1 _ c.pack-found.ensures.number c.args.tab c.args.version c.in-Some.ensures.0
    _ _ _ _ _ _ c.index-chain.result.now _ _ _
    c.if-found-last.false c.taken_word-left.ensures c.readers_here.ensures c.met-met.ensures c.epoch_bits-seen.ensures c.is_idle-was_idle.ensures.number
    (c.index-chain.ensures ∙ same_default _ _ c.index-chain.result.now no_chain there) c.in_ok-tabs.ensures c.no_chain.ensures c.anchor_addition.ensures c.index_of.ensures
