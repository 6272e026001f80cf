use Rattle.std.proofs.Common.{refl, subst, ◌∙◌, arith}
use Rattle.std.proofs.lemmas.Bool.{false≢true}
use Rattle.core_model.specs.declared.tab.Tab.{Tab}
use Rattle.core_table.specs.declared.content.Content.{Content}
use Rattle.core_change.specs.Inside.{state}
use Rattle.core_slots.specs.Trying.{MayTry}
use Rattle.core_change.proofs.Facts.{tab_is}
use Rattle.core_slots.proofs.LinkSteps.{chain_there}
use Rattle.core_table.proofs.Lists.{same_default}
use Rattle.core_slots.proofs.TurnSteps.{try_there, try_planned}
use Rattle.core_slots.proofs.turns.try_turn.Goals as goal

pub may_try-requires : goal.may_try-requires
may_try-requires c = chain_there _ _ _ c.requires _ _ c.in-Some.ensures

pub returns-then-not-may_try-clause-refused : goal.returns-then-not-may_try-clause-refused
returns-then-not-may_try-clause-refused c e (le, none, may) =
    let tries = subst (λ (y : Tab Content). MayTry (state c.args.table.now) c.args.slot y) (tab_is _ _ _ c.requires _ _ c.in-Some.ensures) (none, may) in
    absurd (false≢true (c.if-not-may_try.ensures.1 tries))

pub index-found-requires : goal.index-found-requires
index-found-requires c =
    let there = try_there _ _ _ c.requires _ c.args.slot _ c.in-Some.ensures (c.if-not-may_try.ensures.0 refl) _ 0 c.index_of-index.ensures in omega (arith, there)

pub returns-clause-planned : goal.returns-clause-planned
returns-clause-planned c =
    let may = c.if-not-may_try.ensures.0 refl in
    let there = try_there _ _ _ c.requires _ c.args.slot _ c.in-Some.ensures may _ 0 c.index_of-index.ensures in
    try_planned _ _ _ c.requires _ c.args.slot _ c.in-Some.ensures may _ _ c.index_of-index.ensures _ _ _ _ _ (c.index-found.ensures ∙ same_default _ _ c.index-found.result.now 0 there)
    c.tried_word-left.ensures c.in_ok-learned.ensures c.tried_turn.ensures c.tried_tabs.ensures c.word_addition.ensures
