-- A run of a script over a file: what was opened, what the workers did, and what was left.
use Rattle.std.specs.Prelude.{All, Bool, Contains, IsTrue, List, map, ◌≡◌, ◌⊎◌, ℕ}
use Rattle.std.specs.FinMap.{insert}
use Rattle.std.specs.Global.{Vec}
use Rattle.rock_disk.specs.Cell.{CellState}
use Rattle.rock_disk.specs.File.{Files, bytes_of, rest_cut}
use Rattle.rock_disk.specs.File.File.{Home}
use Rattle.script_text.specs.declared.answer.Answer.{Answer}
use Rattle.script_text.specs.declared.line.Line.{Line}
use Rattle.store_rule.specs.declared.store.Pass.{Pass}
use Rattle.store_rule.specs.declared.store.Store.{Store}
use Rattle.store_rule.specs.Closing.{Closed, views_of}
use Rattle.store_rule.specs.Ground.{Offers}
use Rattle.store_rule.specs.Passes.{basis}
use Rattle.rock_open.specs.declared.fault.OpenStoreFault.{OpenStoreFault}
use Rattle.rock_open.specs.declared.fault.OpenStoreFault.TheVariants.{BadGeometry, Failed, Memory, Missing, Small}
use Rattle.rock_disk.specs.Counts.{Counts}
use Rattle.rock_open.specs.Opening.{OpensStore}
use Rattle.worker_pool.specs.Courses.{At}
use Rattle.worker_pool.specs.Running.{Account, answers_of}
use Rattle.worker_shelf.specs.Shelves.{OnShelf}
use Rattle.worker_shelf.specs.Playing.{IsPlayed, TellsAtMarks}
use Rattle.rock_run.specs.Offered.{offers_of}
use Rattle.rock_run.specs.Device.{HasEnded}

module _ {C O St : Type 0} (tells : Bool) (state : C → CellState) (offers : O → Offers) (faults : St → ℕ) (s : Store C O)
    (lines : List Line) where
  -- Workers served these lines, each with the pass and the station of its place, and answered so. What each did is its account, and what
  -- one knew that set a mark is known to each that met it.
  pub record HasPlayed (passes : List (Pass C)) (stations : List St) (passes_left : List (Pass C)) (stations_left : List St)
      (answers : List (List (ℕ × Answer))) : Type 0 where
    pub accounts : List (Account (OnShelf C O St))
    pub each : (w : ℕ) (a : Account (OnShelf C O St)) → At accounts w a → IsPlayed tells state offers faults s lines w a
    pub told : (a b : Account (OnShelf C O St)) → Contains accounts a → Contains accounts b → TellsAtMarks a b
    pub passes_are : map (λ a. a.start.pass) accounts ≡ passes
    pub stations_are : map (λ a. a.start.station) accounts ≡ stations
    pub passes_left_are : map (λ a. a.end.pass) accounts ≡ passes_left
    pub stations_left_are : map (λ a. a.end.station) accounts ≡ stations_left
    pub answers_are : map answers_of accounts ≡ answers

  -- workers played so, with stations that were new
  pub record HasServed (passes : List (Pass C)) (passes_left : List (Pass C)) (stations_left : List St) (answers : List (List (ℕ × Answer)))
      : Type 0 where
    pub stations : List St
    pub fresh : All (λ station. faults station ≡ 0) stations
    pub played : HasPlayed passes stations passes_left stations_left answers

module _ {C : Type 0} (volume_tells tells : Bool) (state : C → CellState) (before after : Files) (name : List ℕ) (slot anchors workers : ℕ)
    (lines : List Line) where
  -- The file was opened as a store, whose origin these lines are, and the store was closed: its passes stood in one state that keeps the
  -- rule, with all tabs free. The cells are back in the file, each as it was in its place then, and the header area and the rest are as
  -- opening cuts them.
  pub record HasClosed : Type 0 where
    pub store : Store C (List Line)
    pub header : C
    pub passes : Vec (Pass C)
    pub middle : Files
    pub opened : OpensStore volume_tells tells state offers_of before middle name slot anchors workers lines header store passes
    pub left : List (Pass C)
    pub cells : List C
    pub closed : Closed tells state (basis tells state offers_of store) (views_of left) cells
    pub back : (told : IsTrue volume_tells)
        → after ≡ insert middle name (Home (state header) (map state cells) (rest_cut slot (bytes_of (opened.out told).was)))

  -- Workers served the lines in between, and answered so. Each station was ended with the count that it had then.
  pub record HasRun {St : Type 0} (faults : St → ℕ) (answers : List (List (ℕ × Answer))) (counts_before counts_after : Counts)
      : Type 0 where
    pub closed : HasClosed
    pub stations : List St
    pub served : HasServed tells state offers_of faults closed.store lines closed.passes.items closed.left stations answers
    pub ended : HasEnded 0 (map faults stations) counts_before counts_after

-- What a refusal leaves of the files: they are kept, but at a fault or want of memory the store may have been open, and was closed then.
abbrev pub RefusalLeaves : (Kept Closed : Type 0) → OpenStoreFault → Type 0
RefusalLeaves Kept Closed (BadGeometry field) = Kept
RefusalLeaves Kept Closed Missing = Kept
RefusalLeaves Kept Closed (Small bytes) = Kept
RefusalLeaves Kept Closed Failed = Kept ⊎ Closed
RefusalLeaves Kept Closed Memory = Kept ⊎ Closed
