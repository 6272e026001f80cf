use Rattle.std.proofs.Common.{sym}
use Rattle.worker_pool.proofs.Going.{ready_skip, served_skip}
use Rattle.worker_pool.proofs.Stopping.{stopped_skip}
use Rattle.worker_pool.proofs.worker.Worker.go_on.Goals as goal

pub returns-then-line-self-clause-ready : goal.returns-then-line-self-clause-ready
returns-then-line-self-clause-ready g c = ready_skip g.H.Shelf _ _ _ _ _ _ c.requires.ready

pub returns-then-line-self-clause-served : goal.returns-then-line-self-clause-served
returns-then-line-self-clause-served g c start before going = served_skip g.H.Shelf _ _ _ _ c.index-lines-place.result _ _ _ (c.requires.place, sym c.index-lines-place.is) c.if-line-self.true (before going)

pub returns-then-line-self-clause-stopped : goal.returns-then-line-self-clause-stopped
returns-then-line-self-clause-stopped g c start going before halts = stopped_skip g.H.Shelf _ _ _ c.index-lines-place.result _ _ (c.requires.place, sym c.index-lines-place.is) c.if-line-self.true (before halts)
