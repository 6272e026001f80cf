-- Files, openings and crashes in turn.
use Rattle.std.specs.Prelude.{◌≡◌, ◌≤◌, ℕ, List, [], ◌∷◌, length}
use Rattle.rebuild_model.specs.declared.rebuilt.Rebuilt.{Rebuilt}
use mathlib.Core.Option.{some}
use lib.ListN.{get_elem?}
use Rattle.rebuild_model.specs.Image.{image_at, IsSaneAt}
use Rattle.rebuild_model.specs.Rebuilt.{IsRebuilt}
use Rattle.core_model.specs.declared.tab.Piece.{Piece}
use Rattle.core_model.specs.declared.view.LoggedPiece.{LoggedPiece}
use Rattle.core_model.specs.Anchors.{IsSetting}
use Rattle.core_model.specs.Layout.{Setting}
use Rattle.core_model.specs.Opening.{IsOpened}
use Rattle.core_model.specs.State.{State}
use Rattle.core_log.specs.Logged.{IsLoggedRun, PassMove}
use Rattle.crash_entries.specs.Parts.{Offers, bytes_of}
use Rattle.crash_laws.specs.Left.{IsLeftWhile, LogKeeps, part_of}

-- A file is opened with what a rebuild keeps, steps follow whose pieces keep to their offers, and a crash leaves the other file.
pub record IsLife (X : Type 0) (slot : ℕ) (o : Offers) (before after : List (List ℕ)) : Type 0 where
  pub setting : Setting X
  pub bytes : X → List ℕ  -- of each content
  pub many : length before ≡ setting.slots
  pub contents : (j : ℕ) (x : X) → get_elem? setting.contents j ≡ some x → image_at before j ≡ bytes x
  pub few : setting.slots ≤ 1048576
  pub image : (j a : ℕ) (p : Piece) → bytes (setting.image p) ≡ bytes_of slot o (part_of j a p)
  pub blank : (images : List (List ℕ)) (j : ℕ) → image_at images j ≡ bytes setting.blank → ¬ IsSaneAt slot images j
  pub rebuilt : Rebuilt
  pub opened : State X
  pub is_setting : IsSetting setting
  pub is_opened : IsOpened setting rebuilt opened
  pub is_rebuilt : IsRebuilt slot before setting.anchors rebuilt
  pub steps : List PassMove
  pub state : State X
  pub log : List LoggedPiece
  pub run : IsLoggedRun setting opened [] steps state log
  pub keeps : LogKeeps slot o setting log
  pub left : IsLeftWhile setting bytes state log after

-- one after the other, from the first file to the last
abbrev pub AreLives : Type 0 → ℕ → Offers → List (List ℕ) → List (List (List ℕ)) → List (List ℕ) → Type 0
AreLives X slot o first [] last = last ≡ first
AreLives X slot o first (f ∷ fs) last = IsLife X slot o first f × AreLives X slot o f fs last
