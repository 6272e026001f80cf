-- What a worker that is alone at its anchors leaves at all anchors that are private to it: at those that it names, and at those that nobody names.
use Rattle.std.proofs.Common.{Bool, IsTrue, List, ap, false, length, map, not, refl, subst, sym, true, ◌+◌, ◌<◌, ◌∙◌, ◌≡◌, ◌≤◌, ℕ}
use Rattle.std.proofs.lemmas.Bool.{and_from}
use Rattle.std.specs.Prelude.{Some}
use Rattle.std.specs.FinMap.{get}
use Rattle.rock_disk.specs.Cell.{CellState}
use Rattle.rock_disk.specs.Counts.{Counts}
use Rattle.rock_disk.specs.File.{Files, bytes_of, header_cut, rest_cut}
use Rattle.rock_disk.specs.File.File.{Home}
use Rattle.rock_disk.proofs.Out.{get_inserted}
use Rattle.script_text.specs.declared.answer.Answer.{Answer}
use Rattle.script_text.specs.declared.line.Line.{Line}
use Rattle.core_model.specs.State.{word}
use Rattle.lock_word.specs.Words.{epoch_of, version_of}
use Rattle.plain_model.specs.declared.entry.Entry.{Entry as PlainEntry}
use Rattle.plain_model.specs.declared.entry.Life.TheVariants.{Whole}
use Rattle.plain_model.specs.declared.entry.Place.{Place}
use Rattle.plain_model.specs.declared.store.Plain.{Plain}
use Rattle.plain_model.specs.declared.store.Setting.{Setting}
use Rattle.plain_model.specs.Opening.{IsOpened}
use Rattle.plain_model.specs.Store.{entry_at, place_at}
use Rattle.plain_laws.specs.Fitting.{Fits, RunsInRoom}
use Rattle.plain_laws.specs.Private.{is_private_anchor, private_lines}
use Rattle.plain_laws.specs.Renaming.{CountsVersions}
use Rattle.plain_runs.specs.Ends.{HoldsEntry}
use Rattle.plain_runs.specs.PrivateRuns.{IsPrivateRun, left_alone}
use Rattle.plain_runs.specs.Runs.{setting_over}
use Rattle.rock_run.specs.Runs.{HasRun}
use Rattle.run_rules.specs.Fitting.{FitsInto}
use Rattle.run_rules.specs.Last.{AreLastWords}
use Rattle.run_rules.specs.Left.{images_of}
use Rattle.run_rules.specs.Openings.{BeganWithFile}
use Rattle.run_rules.specs.Private.{is_own_anchor}
use Rattle.run_rules.specs.Runs.{HasImages, IsExplained}
use Rattle.run_rules.specs.Standing.{LeavesStanding, Stands}
use Rattle.run_rules.proofs.Fitting.{OneWinner}
use Rattle.run_rules.proofs.Private.{cells_back, images_are}
use Rattle.run_rules.proofs.Unnamed.{names_none, unnamed_place}
use Rattle.run_rules.proofs.UnnamedLast.{unnamed_holds}

-- What stands at the anchors that a worker alone names, and at those that no line names, stands at all that are private to it.
module _ (slot anchors slots : ℕ) (script : List Line) (worker : ℕ) (plain : Plain) (given : List Answer) (mine : ℕ → Bool)
    (last : ℕ → ℕ) (back : List (List ℕ)) where
  abbrev S : Setting
  S = setting_over slot anchors slots

  abbrev P : Plain
  P = left_alone S script worker plain

  pub at_private : ((a : ℕ) → is_own_anchor S script worker a ≡ true → mine a ≡ true)
      → ((a : ℕ) (e : PlainEntry) → a < anchors → names_none S script a ≡ true → entry_at P a ≡ Some e
      → HoldsEntry slot anchors back a (place_at P a).version e × ((place_at P a).version ≤ plain.counter))
      → IsPrivateRun slot S script worker plain given mine mine last back
      → IsPrivateRun slot S script worker plain given (is_private_anchor S script worker) (is_own_anchor S script worker) last back
  at_private own unnamed run = record {
    served = run.served;
    entries = held;
    ended = λ a lt named. run.ended a lt (own a named);
  }
    where
      held : (a : ℕ) (e : PlainEntry) → a < anchors → is_private_anchor S script worker a ≡ true → entry_at P a ≡ Some e → e.life ≡ Whole
          → HoldsEntry slot anchors back a (run.served.rename (place_at P a).version) e
      held a e lt private there whole = by_names (names_none S script a) refl
        where
          by_names : (b : Bool) → names_none S script a ≡ b → HoldsEntry slot anchors back a (run.served.rename (place_at P a).version) e
          by_names true none = let u = unnamed a e lt none there in
              subst (λ (n : ℕ). HoldsEntry slot anchors back a n e) (sym (run.served.is.keeps (place_at P a).version u.1)) u.0
          by_names false named = run.entries a e lt
              (own a (and_from (is_private_anchor S script worker a) (not (names_none S script a)) private (ap not named))) there whole

module _ {C St : Type 0} (volume_tells told : Bool) (state : C → CellState) (faults : St → ℕ) (files left : Files) (name : List ℕ)
    (slot anchors workers : ℕ) (script : List Line) (answers : List (List (ℕ × Answer))) (before after : Counts)
    (h : HasRun volume_tells told state files left name slot anchors workers script faults answers before after) (tells : IsTrue volume_tells)
    (images : List (List ℕ)) (file : HasImages files name slot images) (plain : Plain) (opened : IsOpened slot images anchors plain)
    (e : IsExplained volume_tells files name slot anchors workers script answers before after)
    (words : AreLastWords e.run e.crew (word h.closed.closed.gathered.state))
    (standing : LeavesStanding files left name slot anchors script answers (word h.closed.closed.gathered.state))
    (one : OneWinner) (fits : FitsInto slot anchors images script) where
  -- images of the file are one list
  same_images : (other : List (List ℕ)) → HasImages files name slot other → other ≡ images
  same_images other there = images_are volume_tells told state faults files left name slot anchors workers script answers before after h tells other there
      ∙ sym (images_are volume_tells told state faults files left name slot anchors workers script answers before after h tells images file)

  abbrev back : List (List ℕ)
  back = map (λ (c : C). (state c).now) h.closed.cells

  -- the file that was given back has one list of cells
  cells_are : map (λ (c : CellState). c.now) standing.file.cells ≡ back
  cells_are =
      let b = cells_back volume_tells told state faults files left name slot anchors workers script answers before after h tells in
      let there : Some (Home (header_cut (bytes_of standing.file.was)) standing.file.cells (rest_cut slot (bytes_of standing.file.was)))
      ≡ Some (Home b.header b.cells b.rest) =
      sym (ap (λ m. get m name) standing.file.back ∙ get_inserted files name _) ∙ b.there in
      let same : standing.file.cells ≡ b.cells = cc in
      ap (map (λ (c : CellState). c.now)) same ∙ sym b.images_are

  module _ (w : ℕ) (runs : (lines : List Line) → Fits (setting_over slot anchors (length images)) lines plain
      → RunsInRoom (setting_over slot anchors (length images)) script lines plain)
      (own_fit : Fits (setting_over slot anchors (length images)) (private_lines (setting_over slot anchors (length images)) script (w + 1)) plain)
      (counts : CountsVersions plain) where
    abbrev over_images : Setting
    over_images = setting_over slot anchors (length images)

    abbrev left_here : Plain
    left_here = left_alone over_images script (w + 1) plain

    pub unnamed_stands : (a : ℕ) (pe : PlainEntry) → a < anchors → names_none over_images script a ≡ true → entry_at left_here a ≡ Some pe
        → HoldsEntry slot anchors back a (place_at left_here a).version pe × ((place_at left_here a).version ≤ plain.counter)
    unnamed_stands a pe lt none there =
        let place : place_at left_here a ≡ place_at plain a = unnamed_place over_images script (w + 1) plain a runs own_fit none in
        let version : (place_at left_here a).version ≡ (place_at plain a).version = ap Place.version place in (
          subst (λ (n : ℕ). HoldsEntry slot anchors back a n pe) (sym version)
              (unnamed_holds e.run slot anchors images script e.crew (word h.closed.closed.gathered.state)
              (subst (BeganWithFile e.run slot anchors) (same_images e.images (e.file tells)) e.began)
              e.serves words (e.fits_is.1 (subst (λ (z : List (List ℕ)). FitsInto slot anchors z script) (sym (same_images e.images (e.file tells))) fits))
              e.anchors_are over_images refl a lt none one plain opened back standing.file.cells cells_are
              (λ closed. subst (λ (z : List (List ℕ)). Stands slot anchors z script standing.file.cells a (version_of (epoch_of (word h.closed.closed.gathered.state a))))
              (same_images (images_of slot standing.file.was) record { was = standing.file.was; there = standing.file.there; images_are = refl })
              (standing.closed a lt closed))
              pe (sym (ap Place.entry place) ∙ there)),
          subst (λ (n : ℕ). n ≤ plain.counter) (sym version) (counts a),
        )
