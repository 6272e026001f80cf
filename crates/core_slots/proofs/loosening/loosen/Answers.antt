use Rattle.core_slots.proofs.LoosenSteps.{leaves_inner, goes_over, not_taken, link_there, loosened_planned, handed_planned}
use Rattle.core_slots.proofs.loosening.loosen.Goals as goal

pub returns-in_default-clause-refused : goal.returns-in_default-clause-refused
returns-in_default-clause-refused c e allowed = c.in_default.ensures (leaves_inner _ _ _ c.requires _ _ allowed)

pub unlinked_change-requires : goal.unlinked_change-requires
unlinked_change-requires c = link_there _ _ _ c.requires _ _ c.in-Some.ensures.0 c.in-Some.ensures.1

pub returns-then-tab-eq-INNER_TAB-clause-planned : goal.returns-then-tab-eq-INNER_TAB-clause-planned
returns-then-tab-eq-INNER_TAB-clause-planned c =
    loosened_planned _ _ _ c.requires _ _ c.in-Some.ensures.0 c.in-Some.ensures.1 _ _ _ c.if-tab-eq-INNER_TAB.true c.in_ok-tabs.ensures c.unlinked_change.ensures

pub returns-in_default-reserving_writer-clause-refused : goal.returns-in_default-reserving_writer-clause-refused
returns-in_default-reserving_writer-clause-refused c e allowed =
    c.in_default-reserving_writer.ensures (goes_over _ _ _ c.requires _ _ c.if-tab-eq-INNER_TAB.false allowed).0

pub returns-then-not-freer-clause-refused : goal.returns-then-not-freer-clause-refused
returns-then-not-freer-clause-refused c e allowed =
    not_taken _ _ _ c.requires _ _ c.in-Some.ensures.0 _ c.if-tab-eq-INNER_TAB.false c.if-not-freer.true allowed

pub unlinked_change-requires-2 : goal.unlinked_change-requires-2
unlinked_change-requires-2 c = link_there _ _ _ c.requires _ _ c.in-Some.ensures.0 c.in-Some.ensures.1

pub returns-clause-planned : goal.returns-clause-planned
returns-clause-planned c =
    handed_planned _ _ _ c.requires _ _ c.in-Some.ensures.0 c.in-Some.ensures.1 _ _ c.in-Some-reserving_writer.ensures.0 c.in-Some-reserving_writer.ensures.1
    c.if-tab-eq-INNER_TAB.false c.if-not-freer.false _ _ c.in_ok-tabs-2.ensures c.unlinked_change-2.ensures
