use Rattle.std.proofs.Common.{◌∙◌, arith}
use Rattle.core_model.specs.Chains.{no_chain}
use Rattle.core_table.proofs.Lists.{same_default}
use Rattle.core_slots.proofs.PublishSteps.{chain_there, few_published, link_there, published_planned}
use Rattle.core_slots.proofs.publishing.publish.Goals as goal

pub index-requires : goal.index-requires
index-requires c = let lt = chain_there _ _ _ c.requires _ _ _ _ c.in-Some.ensures.0 c.in-Some.ensures.1 in omega (arith, lt)

pub published_change-requires-clause-index : goal.published_change-requires-clause-index
published_change-requires-clause-index c = link_there _ _ _ c.requires _ _ _ _ c.in-Some.ensures.0 c.in-Some.ensures.1

pub published_change-requires-clause-few : goal.published_change-requires-clause-few
published_change-requires-clause-few c = few_published _ _ _ c.requires _ _ _ _ c.in-Some.ensures.0 c.in-Some.ensures.1

pub returns-clause-planned : goal.returns-clause-planned
returns-clause-planned c =
    let there = chain_there _ _ _ c.requires _ _ _ _ c.in-Some.ensures.0 c.in-Some.ensures.1 in
    published_planned _ _ _ c.requires _ _ _ _ c.in-Some.ensures.0 c.in-Some.ensures.1 c.if-tab-ge-INNER_TAB.false _ _ _ _
    c.in_ok-tabs.ensures (c.index.ensures ∙ same_default _ _ c.index.result.now no_chain there) c.in_ok-chain.ensures c.published_change.ensures
