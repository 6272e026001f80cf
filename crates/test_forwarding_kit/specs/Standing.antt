-- How a worker stands between two lines, and what the lines of a script are that was read.
use Rattle.std.specs.Prelude.{All, Bool, List, ◌≡◌}
use Rattle.rock_disk.specs.Cell.{CellState}
use Rattle.rock_run.specs.Asked.{IsAsked, IsFound}
use Rattle.test_forwarding_kit.specs.Shared.{shared_of}
use Rattle.script_text.specs.declared.line.Line.{Line}
use Rattle.store_rule.specs.declared.store.Pass.{Pass}
use Rattle.store_rule.specs.declared.store.Store.{Store}
use Rattle.store_rule.specs.Ground.{Offers}
use Rattle.store_rule.specs.Passes.{basis}
use Rattle.store_serve.specs.Tabs.{Holds, IsFree}
use Rattle.store_serve.specs.Tabs as served
use Rattle.store_serve.specs.declared.tabs.ScriptTab.{ScriptTab}

-- the line is the first of its number, and names a tab and a URL of a script
pub record IsRead (lines : List Line) (line : Line) : Type 0 where
  pub found : IsFound lines line
  pub asked : IsAsked line.request

module _ {C O : Type 0} (tells : Bool) (state : C → CellState) (offers : O → Offers) (s : Store C O) where
  -- the pass is of the store, and the tab of whole requests and the inner one are free
  pub record IsReady (p : Pass C) : Type 0 where
    pub ready : served.IsReady tells state offers s p
    pub free : IsFree p 7

  -- the store is offered what these lines offer, and they were read
  pub record IsScripted (lines : List Line) : Type 0 where
    pub offers_are : (basis tells state offers s).offers ≡ shared_of lines
    pub read : All (IsRead lines) lines

  -- the pass stands ready, and what is kept of its tab 0 is so
  pub record IsAtWork (p : Pass C) (kept : ScriptTab) : Type 0 where
    pub ready : IsReady p
    pub holds : Holds tells state offers s p 0 kept
