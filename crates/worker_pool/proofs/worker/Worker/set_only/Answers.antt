use Rattle.std.proofs.Common.{arith, take}
use Rattle.worker_pool.proofs.Answering.{set_holds}
use Rattle.worker_pool.proofs.Going.{ready_next, ready_skip}
use Rattle.worker_pool.proofs.Stopping.{stopped_mark, stopped_pass}
use Rattle.worker_pool.proofs.worker.Worker.set_only.Goals as goal

pub set_mark-requires-clause-may : goal.set_mark-requires-clause-may
set_mark-requires-clause-may g c κs out =
    let e = c.in-Mark.is in
    let here = c.requires.marks.set c.args.place c.in-Mark.mark c.args.line.now c.requires.at e in
    (here.0, c.requires.ready.may c.args.place c.in-Mark.mark c.args.line.now c.requires.at (omega arith) c.requires.mine e)

pub returns-in-Mark-clause-ready : goal.returns-in-Mark-clause-ready
returns-in-Mark-clause-ready g c = ready_next g.H.Shelf _ _ _ _ c.args.line.now _ _ c.args.self.now.seat _ c.requires.marks c.requires.at c.set_mark.ensures.own c.set_mark.ensures.kept
    (set_holds g.H.Shelf _ (take c.args.place c.args.lines.now) c.args.line.now _ _ _ _ c.in-Mark.is c.set_mark.ensures.set) c.requires.ready

pub returns-in_default-clause-ready : goal.returns-in_default-clause-ready
returns-in_default-clause-ready g c = ready_skip g.H.Shelf _ _ _ _ _ _ c.requires.ready

pub returns-in-Mark-clause-stopped : goal.returns-in-Mark-clause-stopped
returns-in-Mark-clause-stopped g c start s = stopped_mark g.H.Shelf _ _ _ c.in-Mark.mark c.args.line.now _ _ _ _ _ c.requires.at c.requires.mine c.in-Mark.is c.set_mark.ensures.set s

pub returns-in_default-clause-stopped : goal.returns-in_default-clause-stopped
returns-in_default-clause-stopped g c start s = stopped_pass g.H.Shelf _ _ _ c.args.line.now _ _ c.requires.at c.in_default.not-Mark s
