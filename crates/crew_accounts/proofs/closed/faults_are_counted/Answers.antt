use Rattle.std.proofs.Common.{ap, subst, sym, ◌+◌, ◌-◌, ◌^◌, ◌∙◌, ◌≤◌}
use Rattle.std.specs.Prelude.{min}
use Rattle.worker_shelf.specs.Playing.{fault_answers}
use Rattle.crew_accounts.proofs.Faults.{risen, stays}
use Rattle.crew_accounts.proofs.closed.faults_are_counted.Goals as goal

pub returns-clause-rose : goal.returns-clause-rose
returns-clause-rose g c a h = subst (λ n. min (g.St.Station.faults a.start.station + fault_answers a) (2 ^ 64 - 1) ≤ n) (sym (ap g.St.Station.faults h.left.station))
    (risen g.C.Cell.tells g.C.Cell.state g.O.Origin.offers g.St.Station.faults a.stages a.start a.last h.linked h.steps)

pub returns-clause-same : goal.returns-clause-same
returns-clause-same g c a h none = ap g.St.Station.faults h.left.station
    ∙ stays g.C.Cell.tells g.C.Cell.state g.O.Origin.offers g.St.Station.faults a.stages a.start a.last h.linked h.steps none
