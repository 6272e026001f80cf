use Rattle.std.proofs.Common.{arith}
use Rattle.std.proofs.lemmas.List.{length-map}
use Rattle.run_rules.proofs.Left.{given_back}
use Rattle.run_rules.proofs.crashes.closed_runs_leave_responses.Goals as goal

pub returns : goal.returns
returns g c volume_tells files left name slot anchors workers script sized told h =
    given_back volume_tells g.C.Cell.tells g.C.Cell.state files left name slot anchors workers script told h
    (λ images e is complete. c.closed_cells_leave_responses.ensures slot anchors workers script h.opened.cells h.store h.passes _ h.cells
    images e (h.opened.told told) (let most = sized.to in omega arith)
    (let few = c.opened_slots_are_wide_and_few.ensures.few slot h.opened.bytes _ _ h.opened.shape in
    let same = length-map h.opened.cells g.C.Cell.state in omega arith) h.opened.store h.closed is complete)
    (λ cell. g.met.C.Cell.now_may_stay cell (h.opened.told told))
    c.now_is_a_crash_image.ensures
