use Rattle.std.proofs.Common.{subst}
use Rattle.line_account.specs.Courses.{lines_in}
use Rattle.store_rule.specs.declared.store.Store.{Store}
use Rattle.store_serve.specs.Whole.{whole_tab}
use Rattle.worker_shelf.specs.Shelves.{LeftBelow}
use Rattle.crew_accounts.proofs.Going.{from_start}
use Rattle.crew_accounts.proofs.shelves.shelves_have_courses.Goals as goal

pub returns-clause-course : goal.returns-clause-course
returns-clause-course g c s told past start end stages is_told store fresh linked each =
    from_start g.C.Cell.tells g.C.Cell.state g.O.Origin.offers g.St.Station.faults s told past
    record { line = λ served. c.lines_add.ensures s told past served; set = λ served. c.marks_add.ensures.set s told past served; met = λ served. c.marks_add.ensures.met s told past served; unmet = λ served. c.marks_add.ensures.unmet s told past served }
    is_told start store (c.new_passes_track.ensures s told past start.pass fresh) stages end linked (λ x h. (each x h).0) (λ x h. (each x h).1)

pub returns-clause-leaves : goal.returns-clause-leaves
returns-clause-leaves g c s told past start end last stages h left =
    c.ends_leave.ensures s told past (lines_in h.course) end.pass last.pass h.tracks
    (subst (λ (z : Store g.row.C.Denot g.row.O.Denot). LeftBelow g.C.Cell.tells g.C.Cell.state g.O.Origin.offers z whole_tab end.pass last.pass) h.store left.left)
