use Rattle.std.proofs.Common.{List, ap, arith, subst, sym, ◌+◌, ◌∙◌, ◌≡◌}
use Rattle.std.specs.List.{Contains}
use Rattle.script_text.specs.declared.line.Line.{Line}
use Rattle.store_rule.specs.declared.store.Pass.{Pass}
use Rattle.store_rule.specs.Passes.{IsOf, view}
use Rattle.worker_shelf.specs.Shelves.{KeepsCells, OnShelf}
use Rattle.worker_shelf.specs.Taking.{Takes}
use Rattle.rock_run.specs.Crews.{MayRest}
use Rattle.rock_run.specs.Offered.{offers_of}
use Rattle.test_wiping.proofs.serving.serve_all.Goals as goal
use Rattle.test_wiping.proofs.serving.serve_all.Goals.{else-line-eq1, then-line-eq1}

pub serve_first-requires-clause-takes : goal.serve_first-requires-clause-takes
serve_first-requires-clause-takes g c κs within =
    let line = c.line-item.result in
    let there = subst (λ (lines : List Line). Contains lines line) c.as_slice-line-items.ensures
    (c.loop-line.line-index, c.loop-line-test.true, sym c.line-item.is) in
    let first : (view c.loop-line.shelf.pass).pass ≡ 0 = c.loop-line.invariant.number ∙ c.requires.number in
    let one = c.if-line-eq1.true in
    let mine : line.worker ≡ (view c.loop-line.shelf.pass).pass + 1 = omega (arith, one, first) in
    subst (λ s. Takes g.C.Cell.tells g.C.Cell.state offers_of s c.loop-line.shelf.pass line) (sym c.loop-line.invariant.store)
    (c.script_lines_may_be_asked.ensures.takes c.args.store.now c.args.script.now.lines line c.loop-line.shelf.pass c.requires.offers
    (c.requires.lines.found line there) (c.requires.lines.asked line there) mine c.in_default.not-Mark c.in_default.not-Await)

pub wipe_for-answer-requires-clause-found : goal.wipe_for-answer-requires-clause-found
wipe_for-answer-requires-clause-found g c κs within =
    let line = c.line-item.result in
    c.requires.lines.found line (subst (λ (lines : List Line). Contains lines line) c.as_slice-line-items.ensures
    (c.loop-line.line-index, c.loop-line-test.true, sym c.line-item.is))

pub wipe_for-answer-requires-clause-worker : goal.wipe_for-answer-requires-clause-worker
wipe_for-answer-requires-clause-worker g c =
    let line = c.line-item.result in
    let within = c.requires.lines.within line (subst (λ (lines : List Line). Contains lines line) c.as_slice-line-items.ensures
    (c.loop-line.line-index, c.loop-line-test.true, sym c.line-item.is)) in
    let least = within.0 in let most = within.1 in let other = c.if-line-eq1.false in
    omega (arith, least, most, other)

pub returns-clause-may : goal.returns-clause-may
returns-clause-may g c =
    let pass = c.into_parts.result.0 in
    let same = ap (λ home. home.0) c.leave_all.ensures.home ∙ c.loop-line.invariant.store in
    record {
      own = subst (λ s. IsOf g.C.Cell.tells g.C.Cell.state offers_of s pass) same c.into_parts.ensures.own;
      rest = c.into_parts.ensures.rest;
      cells = subst (λ s. KeepsCells g.C.Cell.tells g.C.Cell.state offers_of s pass) same c.into_parts.ensures.cells;
    }

pub loop-line-preserved : goal.loop-line-preserved
loop-line-preserved g c = elim c.if-line-eq1.branch [
  | then-line-eq1 w ↦ record {
    store = ap (λ (s : OnShelf g.row.C.Denot (List Line) g.row.St.Denot). s.store) w.shelf-is ∙ w.serve_first.ensures.store ∙ c.loop-line.invariant.store;
    number = ap (λ (s : OnShelf g.row.C.Denot (List Line) g.row.St.Denot). (view s.pass).pass) w.shelf-is ∙ w.serve_first.ensures.number ∙ c.loop-line.invariant.number;
    second = subst (λ (p : Pass g.row.C.Denot). MayRest g.C.Cell.tells g.C.Cell.state offers_of c.args.store.now p) (sym w.second-is) c.loop-line.invariant.second;
    second_number = ap (λ (p : Pass g.row.C.Denot). (view p).pass) w.second-is ∙ c.loop-line.invariant.second_number;
  }
  | else-line-eq1 w ↦ record {
    store = ap (λ (s : OnShelf g.row.C.Denot (List Line) g.row.St.Denot). s.store) w.shelf-is ∙ c.loop-line.invariant.store;
    number = ap (λ (s : OnShelf g.row.C.Denot (List Line) g.row.St.Denot). (view s.pass).pass) w.shelf-is ∙ c.loop-line.invariant.number;
    second = subst (λ (p : Pass g.row.C.Denot). MayRest g.C.Cell.tells g.C.Cell.state offers_of c.args.store.now p) (sym w.second-is) w.wipe_for-answer.ensures.may;
    second_number = ap (λ (p : Pass g.row.C.Denot). (view p).pass) w.second-is ∙ w.wipe_for-answer.ensures.number;
  }
]
