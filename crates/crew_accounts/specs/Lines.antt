-- What a line that was served adds to the account of its worker.
use Rattle.std.specs.Prelude.{Bool, List, Option, ℕ}
use Rattle.rock_disk.specs.Cell.{CellState}
use Rattle.script_text.specs.declared.answer.Answer.{Answer}
use Rattle.script_text.specs.declared.line.Line.{Line}
use Rattle.script_text.specs.declared.request.Request.{Request}
use Rattle.line_account.specs.Courses.{Adds}
use Rattle.line_account.specs.Lines.{Served}
use Rattle.store_rule.specs.declared.store.Pass.{Pass}
use Rattle.store_rule.specs.declared.store.Store.{Store}
use Rattle.store_rule.specs.Ground.{Offers}
use Rattle.store_rule.specs.Passes.{basis, view}
use Rattle.crew_accounts.specs.Runs.{Past, run_of}
use Rattle.crew_accounts.specs.Tracks.{Tracks}
use Rattle.line_account.specs.ScriptOrder.{◌then◌}

abbrev pub line_with : (worker number : ℕ) → Request → Line
line_with worker number request = record { worker = worker; number = number; request = request }

-- a line that was served, and what is not printed of it
abbrev pub served_as : Line → Answer → Option ℕ → (opened looked : ℕ) → Served
served_as line a drew opened looked = record { asked = line; answer = a; drew = drew; opened = opened; looked = looked }

module _ {C O : Type 0} (tells : Bool) (state : C → CellState) (offers : O → Offers) (s : Store C O) (told : Bool) (past : Past)
    (served : List Served) (line : Line) (p : Pass C) (a : Answer) (q : Pass C) where
  -- With some version that it drew, or none, and some epochs, the line adds to the account what it should, and behind it each tab is as the
  -- lines say.
  pub record AddsLine : Type 0 where
    pub drew : Option ℕ
    pub opened : ℕ
    pub looked : ℕ
    pub adds : Adds (run_of (basis tells state offers s) told past) (view p) served (served_as line a drew opened looked) (view q)
    pub tracks : Tracks tells state offers s told past (served then served_as line a drew opened looked) q
