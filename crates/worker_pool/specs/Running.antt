-- What a run says of its workers together.
use Rattle.std.specs.Prelude.{◌≡◌, ◌⊎◌, ℕ, ◌+◌, List, map, length}
use Rattle.std.specs.List.{Contains}
use Rattle.script_text.specs.declared.request.Request.TheVariants.{Mark, Await}
use Rattle.script_text.specs.declared.line.Line.{Line}
use Rattle.script_text.specs.declared.answer.Answer.{Answer}
use Rattle.script_text.specs.declared.answer.Answer.TheVariants.{Met}
use Rattle.script_text.specs.declared.shelf.Shelf.{Ghosts}
use Rattle.worker_pool.specs.Courses.{At, Stage, Course, Kept, Halted}

-- where the second worker met a mark that the first set, its shelf knows after that all that the first's shelf knew before it set it
abbrev pub Meets : {H N : Type 0} → Ghosts H N → List (Stage H) → List (Stage H) → Type 0
Meets {H} g setter other = (s t : Stage H) (m : ℕ) → Contains setter s → Contains other t → s.line.request ≡ Mark m → t.line.request ≡ Await m → t.answer ≡ Met
    → (fact : g.Fact) → g.knows s.before fact → g.knows t.after fact

-- what a worker did: its shelf, the lines that it served, and the shelf before and after it left
pub record Account (H : Type 0) : Type 0 where
  pub start : H
  pub stages : List (Stage H)
  pub last : H
  pub end : H

-- the numbers of the lines that it served, and their answers
abbrev pub answers_of : {H : Type 0} → Account H → List (ℕ × Answer)
answers_of a = map (λ s. (s.line.number, s.answer)) a.stages

module _ {H N : Type 0} (g : Ghosts H N) where
  -- worker w served all its lines, and left
  pub record IsWhole (lines : List Line) (w : ℕ) (a : Account H) : Type 0 where
    pub course : Course g lines w a.start a.stages a.last
    pub left : g.left a.last a.end

  -- each worker served all its lines on the shelf at its place, and what it knew before it set a mark is known to each that met the mark
  pub record HasServed (lines : List Line) (shelves back : List H) (answers : List (List (ℕ × Answer))) : Type 0 where
    pub accounts : List (Account H)
    pub starts : map (λ a. a.start) accounts ≡ shelves
    pub ends : map (λ a. a.end) accounts ≡ back
    pub answers_are : map answers_of accounts ≡ answers
    pub each : (w : ℕ) (a : Account H) → At accounts w a → IsWhole lines (w + 1) a
    pub meets : (a b : Account H) → Contains accounts a → Contains accounts b → Meets g a.stages b.stages

  -- the shelves are those that were handed in, and have no tab in use
  pub record HasBack (shelves back : List H) : Type 0 where
    pub count : length back ≡ length shelves
    pub kept : (w : ℕ) (before after : H) → At shelves w before → At back w after → Kept g before after
    pub free : (after : H) → Contains back after → (tab : ℕ) → g.is_free after tab

  -- no worker served a line, and each shelf left
  abbrev pub HasLeft : List H → List H → Type 0
  HasLeft shelves back = (w : ℕ) (before after : H) → At shelves w before → At back w after → g.left before after

  -- each worker served all its lines, or stopped for want of memory; and one of them stopped
  pub record HasTried (lines : List Line) (shelves back : List H) : Type 0 where
    pub each : (w : ℕ) (before after : H) → At shelves w before → At back w after
        → ((a : Account H) × (a.start ≡ before) × (a.end ≡ after) × IsWhole lines (w + 1) a) ⊎ Halted g lines (w + 1) before after
    pub place : ℕ
    pub before : H
    pub after : H
    pub handed_in : At shelves place before
    pub handed_back : At back place after
    pub stopped : Halted g lines (place + 1) before after

  -- a shelf left
  pub record Left (before after : H) : Type 0 where
    pub left : g.left before after
    pub kept : Kept g before after
    pub free : (tab : ℕ) → g.is_free after tab

  -- each shelf left, and nothing more
  pub record AllLeft (shelves left : List H) : Type 0 where
    pub back : HasBack shelves left
    pub has_left : HasLeft shelves left
