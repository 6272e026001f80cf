use Rattle.std.proofs.Common.{◌<◌, ◌∙◌, sym, refl, subst, arith, length}
use Rattle.core_model.specs.declared.moves.Move.TheVariants as move
use Rattle.core_change.specs.Planned.{Plans}
use Rattle.core_model.specs.Chains.{no_chain}
use Rattle.core_table.proofs.Lists.{same_default}
use Rattle.core_anchors.proofs.TakerSteps.{evict_lost, evict_won}
use Rattle.core_anchors.proofs.takers.evict.Goals as goal

pub returns-clause-planned : goal.returns-clause-planned
returns-clause-planned c =
    let there : c.args.anchor < length c.args.table.now.chains.items = let many = c.requires.sound.shaped.chains in omega arith in
    evict_won _ _ _ c.requires _ c.if-anchor-opening.false _ c.word_at-word.ensures.number c.word_at-word.ensures.in_range _ c.in-Some.ensures.1 _ c.pack-found.ensures.number c.args.tab c.in-Some.ensures.0
    _ _ _ _ _ _ c.index.result.now _ _ _
    (sym c.if-last-found.false) c.freed_word-left.ensures c.readers_here.ensures c.met-met.ensures c.epoch_bits-seen.ensures c.is_idle.ensures.number
    (c.index.ensures ∙ same_default _ _ c.index.result.now no_chain there) c.in_ok-tabs.ensures c.no_chain.ensures c.anchor_addition.ensures c.index_of.ensures

pub returns-then-last-found-clause-planned : goal.returns-then-last-found-clause-planned
returns-then-last-found-clause-planned c =
    subst (Plans _ _ _ (move.Evict _ _)) (sym c.missed.ensures)
    (evict_lost _ _ _ c.requires _ c.if-anchor-opening.false _ c.word_at-word.ensures.number c.word_at-word.ensures.in_range _ c.in-Some.ensures.1 _ c.pack-found.ensures.number c.args.tab c.in-Some.ensures.0
    _ _ _ _ _ c.if-last-found.true c.readers_here.ensures c.met-met.ensures refl refl refl)
