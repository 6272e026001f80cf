use Rattle.std.proofs.Common.{refl, subst, ◌∙◌, arith}
use Rattle.std.proofs.lemmas.Bool.{false≢true}
use Rattle.core_change.proofs.Facts.{tab_is}
use Rattle.core_slots.proofs.LinkSteps.{MayLook, chain_there, link_there, link_small, place_small, look_planned}
use Rattle.core_table.proofs.Lists.{same_default}
use Rattle.core_slots.proofs.links.get_link.Goals as goal

pub may_look-requires : goal.may_look-requires
may_look-requires c = chain_there _ _ _ c.requires _ _ c.in-Some.ensures

pub returns-then-not-may_look-clause-refused : goal.returns-then-not-may_look-clause-refused
returns-then-not-may_look-clause-refused c e allowed =
    let may = subst (MayLook c.args.table.now c.args.slot) (tab_is _ _ _ c.requires _ _ c.in-Some.ensures) allowed.1 in
    absurd (false≢true (c.if-not-may_look.ensures.1 may))

pub index-found-requires : goal.index-found-requires
index-found-requires c =
    let may = c.if-not-may_look.ensures.0 refl in
    let there = link_there _ _ _ c.requires _ _ c.in-Some.ensures c.args.slot may _ _ c.index_of-index.ensures refl in omega (arith, there)

pub looked-change-requires : goal.looked-change-requires
looked-change-requires c =
    let may = c.if-not-may_look.ensures.0 refl in
    let there = link_there _ _ _ c.requires _ _ c.in-Some.ensures c.args.slot may _ _ c.index_of-index.ensures refl in
    link_small _ _ _ c.requires _ _ c.in-Some.ensures c.args.slot may _ _ c.index_of-index.ensures (c.index-found.ensures ∙ same_default _ _ c.index-found.result.now 0 there)

pub published_seen-sight-requires : goal.published_seen-sight-requires
published_seen-sight-requires c =
    let may = c.if-not-may_look.ensures.0 refl in
    let there = link_there _ _ _ c.requires _ _ c.in-Some.ensures c.args.slot may _ _ c.index_of-index.ensures refl in
    place_small _ _ _ c.requires _ _ c.in-Some.ensures c.args.slot may _ _ c.index_of-index.ensures (c.index-found.ensures ∙ same_default _ _ c.index-found.result.now 0 there)

pub returns-clause-planned : goal.returns-clause-planned
returns-clause-planned c =
    let may = c.if-not-may_look.ensures.0 refl in
    let there = link_there _ _ _ c.requires _ _ c.in-Some.ensures c.args.slot may _ _ c.index_of-index.ensures refl in
    look_planned _ _ _ c.requires _ _ c.in-Some.ensures c.args.slot may _ _ c.index_of-index.ensures (c.index-found.ensures ∙ same_default _ _ c.index-found.result.now 0 there)
    _ _ c.looked-change.ensures c.published_seen-sight.ensures _ c.word_addition.ensures
