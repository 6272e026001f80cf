-- What a worker knows while it serves, and what its seat at the marks knows.
use Rattle.std.specs.Prelude.{◌≡◌, ℕ, ◌<◌, ◌≤◌, false, None, List, map, take, length}
use Rattle.std.specs.List.{Contains, list_any}
use Rattle.script_text.specs.declared.line.Line.{Line}
use Rattle.script_text.specs.declared.request.Request.TheVariants.{Mark, Await}
use Rattle.script_text.specs.declared.answer.Answer.{Answer}
use Rattle.script_text.specs.declared.answer.Answer.TheVariants.{Met}
use Rattle.script_text.specs.declared.shelf.Shelf.{Ghosts}
use Rattle.marks.specs.declared.places.Marks.{Marks}
use Rattle.marks.specs.declared.seat.MarkSeat.{MarkSeat}
use Rattle.marks.specs.declared.view.View.{View}
use Rattle.marks.specs.Views.{after_set, after_met, after_put}
use Rattle.marks.specs.Seats.{view, key, IsSeatOf}
use Rattle.worker_pool.specs.declared.notes.Of.{Of}
use Rattle.worker_pool.specs.Courses.{At, sets, IsServed, Stage, lines_of, Linked, StepOf, Step, Meeting}

-- marks are below 64, and no two lines set one mark
pub record HasMarks (lines : List Line) : Type 0 where
  pub set : (k m : ℕ) (line : Line) → At lines k line → line.request ≡ Mark m → (m < 64) × (list_any (sets m) (take k lines) ≡ false)
  pub awaited : (k m : ℕ) (line : Line) → At lines k line → line.request ≡ Await m → m < 64

module _ {H N : Type 0} where
  -- what a view knew, another knows
  pub record Extends (v w : View H N) : Type 0 where
    pub set : (x : ℕ × N) → Contains v.set x → Contains w.set x
    pub met : (x : ℕ × N) → Contains v.met x → Contains w.met x

  -- the seat may still set each mark that it might set, but those that these lines set
  abbrev pub Holds : List Line → View H N → View H N → Type 0
  Holds lines v w = (m : ℕ) → list_any (sets m) lines ≡ false → Contains v.held (m, None) → Contains w.held (m, None)

module _ {H N : Type 0} (g : Ghosts H N) where
  -- a shelf that was so told at the mark m all that it knew, by the note that was set
  pub record SetNote (v : View H N) (m : ℕ) (before : H) : Type 0 where
    pub note : N
    pub set : Contains v.set (m, note)
    pub knows : (fact : g.Fact) → g.knows before fact → g.note_knows note fact

  -- a shelf that is so knows all that the note set at the mark m tells
  pub record MetNote (v : View H N) (m : ℕ) (after : H) : Type 0 where
    pub was : N
    pub met : Contains v.met (m, was)
    pub knows : (fact : g.Fact) → g.note_knows was fact → g.knows after fact

  pub record Told (v : View H N) (line : Line) (before : H) (answer : Answer) (after : H) : Type 0 where
    pub set : (m : ℕ) → line.request ≡ Mark m → SetNote v m before
    pub met : (m : ℕ) → line.request ≡ Await m → answer ≡ Met → MetNote v m after

  abbrev pub IsTold : View H N → Stage H → Type 0
  IsTold v s = Told v s.line s.before s.answer s.after

  -- a mark was set
  pub record HasSet (m : ℕ) (before after : H) (v w : View H N) : Type 0 where
    pub note : N
    pub noted : g.noted before note after
    pub knows : (fact : g.Fact) → g.knows before fact → g.note_knows note fact
    pub view : w ≡ after_set m note v

  -- a mark was met
  pub record HasMet (m : ℕ) (before after : H) (v w : View H N) : Type 0 where
    pub was : N
    pub meeting : Meeting g before after
    pub knows : (fact : g.Fact) → g.note_knows was fact → g.knows after fact
    pub view : w ≡ after_put m (after_met m was meeting.note v)

  -- a line was served, the lines before it being `earlier`
  pub record Answered (earlier : List Line) (line : Line) (before : H) (answer : Answer) (after : H) (w : View H N) : Type 0 where
    pub step : StepOf g line.request earlier line before answer after
    pub told : Told w line before answer after

  -- worker w can go on with the lines from place n on
  pub record Ready (marks : Marks N (Of H) H) (lines : List Line) (w n : ℕ) (shelf : H) (seat : MarkSeat N (Of H) H) : Type 0 where
    pub own : IsSeatOf marks seat
    pub home : g.home shelf ≡ g.home (key marks)
    pub takes : (k : ℕ) (line : Line) → At lines k line → line.worker ≡ w → IsServed line.request → g.takes shelf line
    pub may : (k m : ℕ) (line : Line) → At lines k line → n ≤ k → line.worker ≡ w → line.request ≡ Mark m → Contains (view seat).held (m, None)

  -- worker w served its lines before place n
  pub record Served (lines : List Line) (w : ℕ) (start : H) (n : ℕ) (shelf : H) (answers : List (ℕ × Answer)) (v : View H N) : Type 0 where
    pub stages : List (Stage H)
    pub each : map (λ s. (s.place, s.line)) stages ≡ lines_of w (take n lines)
    pub linked : Linked start stages shelf
    pub steps : (s : Stage H) → Contains stages s → Step g lines s
    pub answers_are : answers ≡ map (λ s. (s.line.number, s.answer)) stages
    pub told : (s : Stage H) → Contains stages s → IsTold v s

  -- worker w served all its lines, and left
  pub record Worked (lines : List Line) (w : ℕ) (start end : H) (answers : List (ℕ × Answer)) (v : View H N) : Type 0 where
    pub last : H
    pub served : Served lines w start (length lines) last answers v
    pub left : g.left last end
