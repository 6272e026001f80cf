use Rattle.std.proofs.Common.{◌≡◌, true, false}
use Rattle.marks.specs.Seats.{view}
use Rattle.worker_pool.specs.Courses.{Kept, Stopped}
use Rattle.worker_pool.specs.Knowing.{Ready, Served}
use Rattle.worker_pool.proofs.worker.Worker.work.Given as goal

abbrev pub invariant-loop-place : goal.invariant-loop-place
invariant-loop-place g l = (l.self.number ≡ l.initial.self.number) × Ready g.H.Shelf l.marks l.lines l.self.number l.place l.self.shelf l.self.seat × Kept g.H.Shelf l.initial.self.shelf l.self.shelf
    × (l.self.is_stopped ≡ false → Served g.H.Shelf l.lines l.self.number l.initial.self.shelf l.place l.self.shelf l.self.answers.items (view l.self.seat))
    × (l.self.is_stopped ≡ true → Stopped g.H.Shelf l.lines l.self.number l.place l.initial.self.shelf l.self.shelf)
