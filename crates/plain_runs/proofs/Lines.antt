-- Lines that a lone pass serves, and tabs that it leaves, as the proofs on courses use them.
use Rattle.std.specs.Prelude.{Bool, IsTrue, List, false, ◌++◌, ◌<◌, ◌≡◌, ◌≤◌, ℕ}
use Rattle.rock_disk.specs.Cell.{CellState}
use Rattle.script_text.specs.declared.answer.Answer.{Answer}
use Rattle.script_text.specs.declared.line.Line.{Line}
use Rattle.plain_model.specs.declared.store.Plain.{Plain}
use Rattle.plain_model.specs.declared.store.Tab.TheVariants.{Free}
use Rattle.plain_model.specs.Serving.{leave, serve}
use Rattle.plain_model.specs.Store.{tab_at}
use Rattle.store_rule.specs.declared.store.Pass.{Pass}
use Rattle.store_rule.specs.declared.store.Store.{Store}
use Rattle.store_rule.specs.Ground.{Ground, Offers}
use Rattle.store_rule.specs.Passes.{basis}
use Rattle.rock_reader.specs.Responses.{HoldsFile, IsResponse, body_below, pieces_of}
use Rattle.store_serve.specs.Answers.{is_fault}
use Rattle.store_serve.specs.Serving.{Serves, Takes}
use Rattle.store_serve.specs.Whole.{whole_tab}
use Rattle.worker_shelf.specs.Shelves.{LeftTab}
use Rattle.worker_shelf.specs.Typed.{IsTyped}
use Rattle.worker_shelf.proofs.Holding.{Stays}
use Rattle.plain_runs.specs.Words.{IsLone, setting_of}
use Rattle.plain_runs.proofs.Served.{leaves_right, line_right}
use Rattle.plain_runs.proofs.ShowingOthers.{OneBegins}
use Rattle.plain_runs.specs.Runs.{ShowsPlain}

-- the laws on what a reader was given: a front of the body, and at the last slot the whole
abbrev pub GivesFronts : Type 0
GivesFronts = (g : Ground (List ℕ)) (anchor offer places : ℕ) (url body : List ℕ) → g.slot < 4294967296 → IsResponse g anchor offer url body
    → places ≤ pieces_of g anchor offer → (rest : List ℕ) × (body ≡ body_below g anchor offer places ++ rest)

abbrev pub GivesWholes : Type 0
GivesWholes = (g : Ground (List ℕ)) (anchor offer : ℕ) (url body : List ℕ) → g.slot < 4294967296 → IsResponse g anchor offer url body
    → body ≡ body_below g anchor offer (pieces_of g anchor offer)

module _ {C O : Type 0} (tells : Bool) (state : C → CellState) (offers : O → Offers) (s : Store C O) where
  -- A line that the pass takes and that meets no fault, and a tab that is left. The tab of whole requests is free between lines.
  pub record LinesRight : Type 0 where
    pub line : (script : List Line) (line : Line) (p q : Pass C) (a : Answer) (before after : ℕ) (plain : Plain) → Takes tells state offers s p line → Serves tells state offers s line p a q before after
        → IsTyped a → is_fault a ≡ false → ShowsPlain tells state offers s p plain → tab_at plain whole_tab ≡ Free
        → (a ≡ (serve (setting_of (basis tells state offers s)) script line plain).answer) × ShowsPlain tells state offers s q (serve (setting_of (basis tells state offers s)) script line plain).after
    pub leaves : (t : ℕ) (p q : Pass C) (plain : Plain) → t < whole_tab → LeftTab tells state offers s t p q → ShowsPlain tells state offers s p plain → ShowsPlain tells state offers s q (leave t plain)

  pub lines_right : IsLone (basis tells state offers s) → OneBegins → Stays tells state offers s → IsTrue tells → HoldsFile (basis tells state offers s) → GivesFronts → GivesWholes
      → (basis tells state offers s).slot < 4294967296 → LinesRight
  lines_right lone begins stays told file fronts wholes sized = record {
    line = λ script line p q a before after plain takes serves typed fair shows whole.
        line_right tells state offers s lone begins stays told file record { front = fronts; whole = wholes } sized script line p q a before after plain takes serves typed fair shows whole;
    leaves = λ t p q plain below left shows. leaves_right tells state offers s lone begins stays t p q plain below left shows;
  }
