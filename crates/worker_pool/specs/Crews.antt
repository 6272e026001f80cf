-- A crew of workers, before it begins and after it ended.
use Rattle.std.specs.Prelude.{◌≡◌, ℕ, ◌+◌, false, true, None, List, [], length}
use Rattle.std.specs.List.{Contains}
use Rattle.script_text.specs.declared.line.Line.{Line}
use Rattle.script_text.specs.declared.request.Request.TheVariants.{Mark}
use Rattle.script_text.specs.declared.shelf.Shelf.{Ghosts}
use Rattle.marks.specs.declared.places.Marks.{Marks}
use Rattle.marks.specs.declared.seat.MarkSeat.{MarkSeat}
use Rattle.marks.specs.declared.view.View.{View}
use Rattle.marks.specs.Seats.{view, IsSeatOf}
use Rattle.marks.specs.Views.{Agrees}
use Rattle.worker_pool.specs.declared.notes.Of.{Of}
use Rattle.worker_pool.specs.declared.worker.Worker.{Worker}
use Rattle.worker_pool.specs.Courses.{At, Kept, Halted}
use Rattle.worker_pool.specs.Knowing.{Extends, Ready, Worked}

module _ {H N : Type 0} where
  -- each seat is of these marks, and may set the marks that the lines of its worker set
  abbrev pub Sets : Marks N (Of H) H → List Line → List (MarkSeat N (Of H) H) → Type 0
  Sets marks lines seats = (w : ℕ) (seat : MarkSeat N (Of H) H) → At seats w seat
      → IsSeatOf marks seat × ((k m : ℕ) (line : Line) → At lines k line → line.worker ≡ w + 1 → line.request ≡ Mark m → Contains (view seat).held (m, None))

  -- a worker that served nothing yet, with the shelf and the seat of this place
  pub record Hired (shelves : List H) (seats : List (MarkSeat N (Of H) H)) (w : ℕ) (x : Worker H N) : Type 0 where
    pub number : x.number ≡ w + 1
    pub shelf : At shelves w x.shelf
    pub seat : At seats w x.seat
    pub fresh : x.answers.items ≡ []
    pub goes : x.is_stopped ≡ false

  pub record AreHired (shelves : List H) (seats : List (MarkSeat N (Of H) H)) (workers : List (Worker H N)) : Type 0 where
    pub count : length workers ≡ length shelves
    pub each : (w : ℕ) (x : Worker H N) → At workers w x → Hired shelves seats w x

  -- a seat that knows all that the workers' seats know, and what it knows of one mark agrees
  pub record Gathered (workers : List (Worker H N)) : Type 0 where
    pub whole : View H N
    pub agrees : Agrees whole
    pub extends : (x : Worker H N) → Contains workers x → Extends (view x.seat) whole

module _ {H N : Type 0} (g : Ghosts H N) where
  -- a worker that may begin
  pub record Begins (marks : Marks N (Of H) H) (lines : List Line) (x : Worker H N) : Type 0 where
    pub ready : Ready g marks lines x.number 0 x.shelf x.seat
    pub fresh : x.answers.items ≡ []
    pub goes : x.is_stopped ≡ false

  -- what a worker was, and is after its course
  pub record Ended (marks : Marks N (Of H) H) (lines : List Line) (x y : Worker H N) : Type 0 where
    pub own : IsSeatOf marks y.seat
    pub kept : Kept g x.shelf y.shelf
    pub free : (tab : ℕ) → g.is_free y.shelf tab
    pub done : y.is_stopped ≡ false → Worked g lines x.number x.shelf y.shelf y.answers.items (view y.seat)
    pub stopped : y.is_stopped ≡ true → Halted g lines x.number x.shelf y.shelf

  pub record AreEnded (marks : Marks N (Of H) H) (lines : List Line) (before after : List (Worker H N)) : Type 0 where
    pub count : length after ≡ length before
    pub each : (w : ℕ) (x y : Worker H N) → At before w x → At after w y → Ended marks lines x y
