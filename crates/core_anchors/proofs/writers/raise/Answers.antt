use Rattle.std.proofs.Common.{◌<◌, arith, refl, ◌∙◌, subst, length}
use Rattle.std.proofs.lemmas.Bool.{false≢true}
use Rattle.core_model.specs.declared.tab.Tab.{Tab}
use Rattle.core_model.specs.Chains.{no_chain}
use Rattle.core_table.specs.declared.content.Content.{Content}
use Rattle.core_table.specs.Inside.{setting}
use Rattle.core_change.specs.Inside.{state}
use Rattle.core_anchors.specs.Raising.{MayRaiseTab}
use Rattle.core_change.proofs.Facts.{in_table, tab_is}
use Rattle.core_table.proofs.Lists.{same_default}
use Rattle.core_anchors.proofs.RaiserSteps.{is_using, raise_planned}
use Rattle.core_anchors.proofs.writers.raise.Goals as goal

pub may_raise_tab-requires-clause-anchor : goal.may_raise_tab-requires-clause-anchor
may_raise_tab-requires-clause-anchor c = in_table _ _ _ c.requires _ _ c.in-Some.ensures

pub returns-then-not-may_raise_tab-clause-refused : goal.returns-then-not-may_raise_tab-clause-refused
returns-then-not-may_raise_tab-clause-refused c e allowed =
    let may = subst (λ (y : Tab Content). MayRaiseTab (setting c.args.opening.now) (state c.args.table.now) y c.args.to) (tab_is _ _ _ c.requires _ _ c.in-Some.ensures) allowed.1 in
    absurd (false≢true (c.if-not-may_raise_tab.ensures.1 may))

pub word_at-word-requires-clause-anchor : goal.word_at-word-requires-clause-anchor
word_at-word-requires-clause-anchor c =
    let may = c.if-not-may_raise_tab.ensures.0 refl in
    let within = in_table _ _ _ c.requires _ _ c.in-Some.ensures (is_using (setting c.args.opening.now) (state c.args.table.now) _ _ may) in
    let same = c.anchor_of-anchor.ensures in omega arith

pub index-requires : goal.index-requires
index-requires c =
    let may = c.if-not-may_raise_tab.ensures.0 refl in
    let within = in_table _ _ _ c.requires _ _ c.in-Some.ensures (is_using (setting c.args.opening.now) (state c.args.table.now) _ _ may) in
    let same = c.anchor_of-anchor.ensures in
    let many = c.requires.sound.shaped.chains in omega arith

pub returns-clause-planned : goal.returns-clause-planned
returns-clause-planned c =
    let may = c.if-not-may_raise_tab.ensures.0 refl in
    let same = c.anchor_of-anchor.ensures in
    let within : c.anchor_of-anchor.result < c.args.opening.now.anchors =
    let lt = in_table _ _ _ c.requires _ _ c.in-Some.ensures (is_using (setting c.args.opening.now) (state c.args.table.now) _ _ may) in omega arith in
    let there : c.anchor_of-anchor.result < length c.args.table.now.chains.items = let many = c.requires.sound.shaped.chains in omega arith in
    raise_planned _ _ _ c.requires _ _ c.in-Some.ensures _ may _ same within _ c.word_at-word.ensures.number c.word_at-word.ensures.in_range _ _ _ _ _ _ c.index.result.now _ _
    c.pack-left.ensures.number c.readers_here.ensures c.met.ensures c.epoch_bits-seen.ensures c.raised_tabs.ensures
    (c.index.ensures ∙ same_default _ _ c.index.result.now no_chain there) c.in_ok-chain.ensures c.anchor_addition.ensures c.index_of.ensures
