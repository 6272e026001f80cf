use Rattle.std.proofs.Common.{refl, ap, ◌∙◌, Some}
use Rattle.core_model.specs.declared.tab.Tab.{Tab}
use Rattle.core_table.specs.declared.content.Content.{Content}
use Rattle.core_anchors.proofs.SideSteps.{store_planned}
use Rattle.core_anchors.proofs.sides.store_side.Goals as goal

pub returns-clause-planned : goal.returns-clause-planned
returns-clause-planned c =
    let there = c.in-Some.ensures ∙ ap (λ (x : Tab Content). Some x) c.in-Writing.is in
    store_planned _ _ _ c.requires _ _ there c.if-tab-ge-INNER_TAB.false (c.if-not-inner_is_free.ensures.0 refl) c.if-writer.false _ _ (c.if-not-may_store.ensures.0 refl) _ _
    c.index_of.ensures c.side_index.ensures _ c.word_addition.ensures
