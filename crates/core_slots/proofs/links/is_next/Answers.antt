use Rattle.std.proofs.Common.{◌∙◌}
use Rattle.core_model.specs.Chains.{no_chain}
use Rattle.core_table.proofs.Lists.{same_default}
use Rattle.core_slots.proofs.LinkSteps.{next_inside, next_behind, next_beyond}
use Rattle.core_slots.proofs.links.is_next.Goals as goal

pub returns-in-Some : goal.returns-in-Some
returns-in-Some c =
    let is = c.index-chain.ensures ∙ same_default _ _ c.index-chain.result.now no_chain c.requires in
    let at = c.in-Some.ensures.lookup.3 in
    next_inside _ _ is _ c.as_slice-slots.ensures _ _ _ at.0 at.1

pub returns-then-place-slots : goal.returns-then-place-slots
returns-then-place-slots c =
    let is = c.index-chain.ensures ∙ same_default _ _ c.index-chain.result.now no_chain c.requires in
    next_behind _ _ is _ c.as_slice-slots.ensures _ _ c.if-place-slots.true _ c.names.ensures

pub returns-else-place-slots : goal.returns-else-place-slots
returns-else-place-slots c =
    let is = c.index-chain.ensures ∙ same_default _ _ c.index-chain.result.now no_chain c.requires in
    next_beyond _ _ is _ c.as_slice-slots.ensures _ _ c.in-None.ensures.lookup.3 c.if-place-slots.false
