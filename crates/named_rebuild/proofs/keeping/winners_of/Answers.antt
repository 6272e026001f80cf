use Rattle.std.proofs.Common.{ap, sym, subst, ◌∙◌, arith}
use Rattle.named_rebuild.specs.Keeping.{HasNoneAt, IsBestAt, AreBest}
use Rattle.named_rebuild.proofs.Walking.{some_of, none_of}
use Rattle.named_rebuild.proofs.Gathering.{none_won, none_here, one_won}
use Rattle.named_rebuild.proofs.keeping.winners_of.Goals as goal
use Rattle.named_rebuild.proofs.keeping.winners_of.Goals.{in-Some+in_ok-push, in_default}

pub anchors-init : goal.anchors-init
anchors-init c = (none_won c.args.file.now c.args.contents.now c.args.anchors c.new-winners.result.items c.new-winners.ensures.items, omega arith)

pub anchors-preserved : goal.anchors-preserved
anchors-preserved c =
    elim c.match-branch-2.branch [
      | in-Some+in_ok-push w ↦ (
        one_won c.args.file.now c.args.contents.now c.args.anchors c.anchors.anchor c.anchors.winners.items c.match-branch-2.winners.items w.in-Some.found c.anchors.invariant.0
            (some_of (HasNoneAt c.args.file.now c.args.contents.now c.args.anchors c.anchors.anchor) (λ f. IsBestAt c.args.file.now c.args.contents.now c.args.anchors c.anchors.anchor f) w.in-Some.is c.in_ok-found.ensures)
            (ap (λ v. v.items) w.winners-is ∙ w.in_ok-push.ensures.items),
        omega (arith, c.anchors-test.true),
      )
      | in_default w ↦ (
        none_here c.args.file.now c.args.contents.now c.args.anchors c.anchors.anchor c.match-branch-2.winners.items
            (subst (λ l. AreBest c.args.file.now c.args.contents.now c.args.anchors c.anchors.anchor l) (sym (ap (λ v. v.items) w.winners-is)) c.anchors.invariant.0)
            (none_of (HasNoneAt c.args.file.now c.args.contents.now c.args.anchors c.anchors.anchor) (λ f. IsBestAt c.args.file.now c.args.contents.now c.args.anchors c.anchors.anchor f) w.in_default.is c.in_ok-found.ensures),
        omega (arith, c.anchors-test.true),
      )
    ]
