use Rattle.std.proofs.Common.{ap, sym, ◌∙◌, arith}
use Rattle.store_key.specs.Anchor.{anchor_of}
use Rattle.rebuild_model.specs.Plain.{IsFound, HasNoEntry}
use Rattle.rebuild_model.specs.Keeping.{HasNoneBefore, IsBest}
use Rattle.plain_rebuild.proofs.Completing.{at_some, at_none}
use Rattle.plain_rebuild.proofs.Best.{keep, same_found, take_new, above, stay}
use Rattle.plain_rebuild.proofs.keeping.better_of.Goals as goal

pub returns-in_default : goal.returns-in_default
returns-in_default c slot images first before told =
    keep slot images c.args.anchors c.args.anchor first c.args.best before
    (λ e whole at same. at_none (HasNoEntry slot images first) (λ f. IsFound slot images first f) c.in_default.is told e whole same)

pub returns-then-anchor_of-anchor : goal.returns-then-anchor_of-anchor
returns-then-anchor_of-anchor c slot images first before told =
    let found = at_some (HasNoEntry slot images first) (λ f. IsFound slot images first f) c.in-Some.is told in
    keep slot images c.args.anchors c.args.anchor first c.args.best before
    (λ e whole at same. c.if-anchor_of-anchor.true (c.anchor_of.ensures.value ∙ ap (λ f. anchor_of f.key c.args.anchors) (same_found c.one_entry_at_a_slot.ensures slot images first c.in-Some.found found e whole same) ∙ at))

pub returns-in_default-best : goal.returns-in_default-best
returns-in_default-best c slot images first before told =
    let found = at_some (HasNoEntry slot images first) (λ f. IsFound slot images first f) c.in-Some.is told in
    take_new c.one_entry_at_a_slot.ensures slot images c.args.anchors c.args.anchor first c.in-Some.found found (sym c.anchor_of.ensures.value ∙ c.if-anchor_of-anchor.false)
    (λ g whole at less. absurd (at_none (HasNoneBefore slot images c.args.anchors c.args.anchor first) (IsBest slot images c.args.anchors c.args.anchor first) c.in_default-best.is before g whole at less))

pub returns-then-best-found : goal.returns-then-best-found
returns-then-best-found c slot images first before told =
    let found = at_some (HasNoEntry slot images first) (λ f. IsFound slot images first f) c.in-Some.is told in
    let best = at_some (HasNoneBefore slot images c.args.anchors c.args.anchor first) (IsBest slot images c.args.anchors c.args.anchor first) c.in-Some-best.is before in
    take_new c.one_entry_at_a_slot.ensures slot images c.args.anchors c.args.anchor first c.in-Some.found found (sym c.anchor_of.ensures.value ∙ c.if-anchor_of-anchor.false)
    (above slot images c.args.anchors c.args.anchor first c.in-Some-best.best c.in-Some.found.version best c.if-best-found.true)

pub returns : goal.returns
returns c slot images first before told =
    let found = at_some (HasNoEntry slot images first) (λ f. IsFound slot images first f) c.in-Some.is told in
    let best = at_some (HasNoneBefore slot images c.args.anchors c.args.anchor first) (IsBest slot images c.args.anchors c.args.anchor first) c.in-Some-best.is before in
    stay c.one_entry_at_a_slot.ensures slot images c.args.anchors c.args.anchor first c.in-Some-best.best c.in-Some.found best found (λ less. omega (arith, less, c.if-best-found.false))
