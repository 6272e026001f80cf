-- What the workers of a store did on their shelves, and that the store was closed behind them.
use Rattle.std.specs.Prelude.{Bool, Contains, List, length, map, ◌≡◌, ℕ}
use Rattle.rock_disk.specs.Cell.{CellState}
use Rattle.script_text.specs.declared.line.Line.{Line}
use Rattle.store_rule.specs.declared.store.Store.{Store}
use Rattle.store_rule.specs.Closing.{Closed}
use Rattle.store_rule.specs.Ground.{Offers}
use Rattle.store_rule.specs.Passes.{basis, view}
use Rattle.worker_pool.specs.Courses.{At}
use Rattle.worker_pool.specs.Running.{Account}
use Rattle.worker_shelf.specs.Playing.{IsPlayed, TellsAtMarks}
use Rattle.worker_shelf.specs.Shelves.{OnShelf}

module _ {C O St : Type 0} (tells : Bool) (state : C → CellState) (offers : O → Offers) (faults : St → ℕ) (s : Store C O)
    (script : List Line) where
  -- Workers did so, one for each pass of the store, and told one another at marks what they knew. The store was closed with their passes.
  pub record HasRun (accounts : List (Account (OnShelf C O St))) (cells : List C) : Type 0 where
    pub count : length accounts ≡ (basis tells state offers s).setting.passes
    pub each : (w : ℕ) (a : Account (OnShelf C O St)) → At accounts w a → IsPlayed tells state offers faults s script w a
    pub told : (a b : Account (OnShelf C O St)) → Contains accounts a → Contains accounts b → TellsAtMarks a b
    pub closed : Closed tells state (basis tells state offers s) (map (λ a. view a.end.pass) accounts) cells
