use Rattle.std.proofs.Common.{sym, ◌∙◌, arith}
use Rattle.named_rebuild.specs.Entries.{HasNoneFrom, IsFoundAt}
use Rattle.named_rebuild.specs.Keeping.{HasNoneBefore, IsBestBefore}
use Rattle.named_rebuild.proofs.Walking.{some_of, none_of}
use Rattle.named_rebuild.proofs.Best.{keep, one_anchor, take_new, above, stay}
use Rattle.named_rebuild.proofs.keeping.better_of.Goals as goal

pub returns-in_default : goal.returns-in_default
returns-in_default c file contents first before told =
    keep file contents c.args.anchors c.args.anchor first c.args.best before
    (λ f q at here. none_of (HasNoneFrom file contents first) (λ f. IsFoundAt file contents first f) c.in_default.is told f q here)

pub returns-then-anchor_of-anchor : goal.returns-then-anchor_of-anchor
returns-then-anchor_of-anchor c file contents first before told =
    let found = some_of (HasNoneFrom file contents first) (λ f. IsFoundAt file contents first f) c.in-Some.is told in
    keep file contents c.args.anchors c.args.anchor first c.args.best before
    (λ f q at here. c.if-anchor_of-anchor.true (c.anchor_of.ensures.value ∙ one_anchor file contents c.args.anchors c.args.anchor first c.in-Some.found found f q here ∙ at))

pub returns-in_default-best : goal.returns-in_default-best
returns-in_default-best c file contents first before told =
    let found = some_of (HasNoneFrom file contents first) (λ f. IsFoundAt file contents first f) c.in-Some.is told in
    take_new file contents c.args.anchors c.args.anchor first c.in-Some.found found (sym c.anchor_of.ensures.value ∙ c.if-anchor_of-anchor.false)
    (λ g q at less. absurd (none_of (HasNoneBefore file contents c.args.anchors c.args.anchor first) (IsBestBefore file contents c.args.anchors c.args.anchor first) c.in_default-best.is before g q at less))

pub returns-then-best-found : goal.returns-then-best-found
returns-then-best-found c file contents first before told =
    let found = some_of (HasNoneFrom file contents first) (λ f. IsFoundAt file contents first f) c.in-Some.is told in
    let best = some_of (HasNoneBefore file contents c.args.anchors c.args.anchor first) (IsBestBefore file contents c.args.anchors c.args.anchor first) c.in-Some-best.is before in
    take_new file contents c.args.anchors c.args.anchor first c.in-Some.found found (sym c.anchor_of.ensures.value ∙ c.if-anchor_of-anchor.false)
    (above file contents c.args.anchors c.args.anchor first c.in-Some-best.best c.in-Some.found.version best c.if-best-found.true)

pub returns : goal.returns
returns c file contents first before told =
    let found = some_of (HasNoneFrom file contents first) (λ f. IsFoundAt file contents first f) c.in-Some.is told in
    let best = some_of (HasNoneBefore file contents c.args.anchors c.args.anchor first) (IsBestBefore file contents c.args.anchors c.args.anchor first) c.in-Some-best.is before in
    stay file contents c.args.anchors c.args.anchor first c.in-Some-best.best c.in-Some.found best found (λ less. omega (arith, less, c.if-best-found.false))
