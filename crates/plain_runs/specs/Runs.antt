-- What the only pass of a store shows of the plain store, at the opening and after a run.
use Rattle.std.specs.Prelude.{Bool, List, [], map, ◌+◌, ◌∷◌, ◌≡◌, ℕ}
use Rattle.rock_disk.specs.Cell.{CellState}
use Rattle.entry_cut.specs.Content.{room_of}
use Rattle.script_text.specs.declared.line.Line.{Line}
use Rattle.plain_model.specs.declared.store.Plain.{Plain}
use Rattle.plain_model.specs.declared.store.Setting.{Setting}
use Rattle.plain_model.specs.Serving.{answers_of, left_by, lines_for}
use Rattle.store_rule.specs.declared.store.Pass.{Pass}
use Rattle.store_rule.specs.declared.store.Store.{Store}
use Rattle.store_rule.specs.Ground.{Offers}
use Rattle.worker_pool.specs.Running.{Account}
use Rattle.worker_shelf.specs.Shelves.{OnShelf}
use Rattle.plain_runs.specs.Shows.{Shows}
use Rattle.plain_runs.specs.Ends.{HoldsWhole}

-- the lines have the numbers behind n, in order
abbrev pub Numbered : ℕ → List Line → Type 0
Numbered n [] = Unit {0}
Numbered n (line ∷ lines) = (line.number ≡ n + 1) × Numbered (n + 1) lines

-- the plain store over so many slots of this size
abbrev pub setting_over : (slot anchors slots : ℕ) → Setting
setting_over slot anchors slots = record { slots = slots; room = room_of slot; anchors = anchors }

module _ {C O : Type 0} (tells : Bool) (state : C → CellState) (offers : O → Offers) (s : Store C O) where
  -- the pass shows the plain store, with the versions of that
  abbrev pub ShowsPlain : Pass C → Plain → Type 0
  ShowsPlain p plain = Shows tells state offers s (λ v. v) p plain

  -- What a worker did alone with a script: its lines are those of worker 1, each is answered as by the plain store, its pass shows at the end what the
  -- script leaves of that, and each entry of it that is whole stands in the cells that were left.
  pub record IsPlainRun {St : Type 0} (slot anchors slots : ℕ) (script : List Line) (plain : Plain) (a : Account (OnShelf C O St)) (left : List C) : Type 0 where
    pub lines : map (λ x. x.line) a.stages ≡ lines_for 1 script
    pub answers : map (λ x. x.answer) a.stages ≡ answers_of (setting_over slot anchors slots) script 1 plain
    pub shows : ShowsPlain a.end.pass (left_by (setting_over slot anchors slots) script 1 plain)
    pub entries : HoldsWhole slot anchors (map (λ c. (state c).now) left) (left_by (setting_over slot anchors slots) script 1 plain)
