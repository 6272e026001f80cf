use Rattle.std.proofs.Common.{refl, ap, ◌∙◌, Some}
use Rattle.core_model.specs.declared.tab.Tab.{Tab}
use Rattle.core_table.specs.declared.content.Content.{Content}
use Rattle.core_change.proofs.Facts.{in_table}
use Rattle.core_anchors.proofs.ReaderSteps.{doom_planned}
use Rattle.core_anchors.proofs.readers.doom.Goals as goal

pub word_at-word-requires-clause-anchor : goal.word_at-word-requires-clause-anchor
word_at-word-requires-clause-anchor c =
    let there = c.in-Some.ensures ∙ ap (λ (x : Tab Content). Some x) c.in-Reading.is in in_table _ _ _ c.requires _ _ there refl

pub returns-clause-planned : goal.returns-clause-planned
returns-clause-planned c =
    let there = c.in-Some.ensures ∙ ap (λ (x : Tab Content). Some x) c.in-Reading.is in
    let within = in_table _ _ _ c.requires _ _ there refl in
    doom_planned _ _ _ c.requires _ within _ c.word_at-word.ensures.number c.word_at-word.ensures.in_range _ _ there refl _ _ _ _ _ _
    c.pack-left.ensures.number c.readers_here.ensures c.met.ensures c.epoch_bits-seen.ensures c.anchor_addition.ensures c.index_of.ensures
