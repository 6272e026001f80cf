-- Which entries stood closed when a run came to its end, and what the file that was given back has of them, as it is and after a
-- crash.
use Rattle.std.specs.Prelude.{◌-◌, ◌<◌, ◌≡◌, ◌≢◌, ◌⊎◌, ℕ, Contains, List, Some, false, map}
use mathlib.Core.Option.{some}
use lib.ListN.{get_elem?}
use Rattle.lock_word.specs.Words.{epoch_of, version_of}
use Rattle.lock_word.specs.declared.epoch.Epoch.{Epoch}
use Rattle.store_key.specs.Anchor.{anchor_of}
use Rattle.store_key.specs.Key.{key_of}
use Rattle.rock_disk.specs.Cell.{CellState}
use Rattle.rock_disk.specs.Crash.{IsCrashImage}
use Rattle.rock_disk.specs.File.{Files}
use Rattle.rebuild_model.specs.Entry.{Entry, IsComplete}
use Rattle.rebuild_model.specs.Image.{IsGreatest}
use Rattle.rebuild_model.specs.Rebuilt.{IsWinner}
use Rattle.script_text.specs.declared.answer.Answer.{Answer}
use Rattle.script_text.specs.declared.answer.Answer.TheVariants.{Stored, Wiped}
use Rattle.script_text.specs.declared.body.Body.{Body}
use Rattle.script_text.specs.declared.line.Line.{Line}
use Rattle.script_text.specs.declared.request.Request.TheVariants.{Save, Wipe}
use Rattle.plain_model.specs.declared.entry.Entry.{Entry as PlainEntry}
use Rattle.plain_model.specs.declared.entry.Life.TheVariants.{Whole}
use Rattle.plain_model.specs.declared.store.Plain.{Plain}
use Rattle.plain_model.specs.Serving.{bytes_of}
use Rattle.plain_model.specs.Store.{entry_at, place_at}
use Rattle.crew_accounts.specs.Saved.{IsSave}
use Rattle.run_rules.specs.Left.{IsGivenBack, images_of}
use Rattle.run_rules.specs.Responses.{IsOffered}
use Rattle.lock_word.specs.declared.stage.Stage.TheVariants.{Closed}
use Rattle.line_account.specs.EpochNames.{IsAtStage, IsUndoomed}

-- a rebuild of these images keeps an entry at the anchor, with this version, URL and body
pub record KeepsAt (slot anchors : ℕ) (images : List (List ℕ)) (a version : ℕ) (url body : List ℕ) : Type 0 where
  -- an entry
  pub entry : Entry
  -- that a rebuild keeps at the anchor
  pub won : IsWinner slot images anchors a entry
  -- with this version,
  pub version_is : entry.version ≡ version
  -- this URL
  pub url_is : entry.url ≡ url
  -- and this body
  pub body_is : entry.body ≡ body

-- an anchor with this word has a closed entry that is not doomed
pub record IsClosedWord (w : ℕ) : Type 0 where
  -- it is at CLOSED
  pub stage : IsAtStage Closed (epoch_of w)
  -- and not doomed
  pub undoomed : IsUndoomed (epoch_of w)

-- the line was answered so
pub record IsAnswered (answers : List (List (ℕ × Answer))) (line : Line) (answer : Answer) : Type 0 where
  -- the answers
  pub mine : List (ℕ × Answer)
  -- of the worker of the line
  pub at : get_elem? answers (line.worker - 1) ≡ some mine
  -- and the answer with the number of the line is one of them
  pub among : Contains mine (line.number, answer)

module _ (slot anchors : ℕ) (images : List (List ℕ)) (script : List Line) (cells : List CellState) (a version : ℕ) where
  -- The entry that a rebuild of the file kept at the anchor stands there still: a rebuild of the cells keeps it, as they are and in
  -- all that a crash may leave of them.
  pub record StandsAsBefore : Type 0 where
    -- a URL
    pub url : List ℕ
    -- and a body
    pub body : List ℕ
    -- that a rebuild of the file kept at the anchor, with the version
    pub file : KeepsAt slot anchors images a version url body
    -- a rebuild of the cells as they are keeps them there
    pub now : KeepsAt slot anchors (map (λ c. c.now) cells) a version url body
    -- and so does one of whatever a crash leaves of the cells
    pub left : (crashed : List (List ℕ)) → IsCrashImage cells crashed → KeepsAt slot anchors crashed a version url body

  -- What a line of the script offers stands there: a rebuild of the cells as they are keeps it, and if the line is a `save`, so does
  -- one of all that a crash may leave of them.
  pub record StandsAsOffered : Type 0 where
    -- a URL
    pub url : List ℕ
    -- and a body
    pub body : List ℕ
    -- that a line of the script offers
    pub offered : IsOffered script url body
    -- a rebuild of the cells as they are keeps them at the anchor, with the version
    pub now : KeepsAt slot anchors (map (λ c. c.now) cells) a version url body
    -- and where the line is a `save`, so does one of whatever a crash leaves of the cells
    pub left : IsSave offered.line.request → (crashed : List (List ℕ)) → IsCrashImage cells crashed
        → KeepsAt slot anchors crashed a version url body

  abbrev pub Stands : Type 0
  Stands = StandsAsBefore ⊎ StandsAsOffered

-- What the file that was given back has of the entries that stood closed in the last words of the anchors.
pub record LeavesStanding (before after : Files) (name : List ℕ) (slot anchors : ℕ) (script : List Line)
    (answers : List (List (ℕ × Answer))) (last : ℕ → ℕ) : Type 0 where
  -- The file is back.
  pub file : IsGivenBack before after name slot script
  -- It has each entry that was closed and not doomed: one that it had before, or one that a line of the script offers.
  pub closed : (a : ℕ) → a < anchors → IsClosedWord (last a)
      → Stands slot anchors (images_of slot file.was) script file.cells a (version_of (epoch_of (last a)))
  -- All that a crash may leave of it has what a `save` line stored whose version stands closed there.
  pub saved : (line : Line) (url : List ℕ) (body : Body) (version : ℕ) → Contains script line → line.request ≡ Save url body
      → IsAnswered answers line (Stored version)
      → version_of (epoch_of (last (anchor_of (key_of url) anchors))) ≡ version
      → IsAtStage Closed (epoch_of (last (anchor_of (key_of url) anchors)))
      → (crashed : List (List ℕ)) → IsCrashImage file.cells crashed
      → KeepsAt slot anchors crashed (anchor_of (key_of url) anchors) version url (bytes_of body)
  -- Nothing that a crash may leave of it has a complete entry of a version that a `wipe` line was answered WIPED with, where that is above
  -- each version of the file before.
  pub wiped : (line : Line) (url : List ℕ) (epoch : Epoch) (greatest : ℕ) → Contains script line → line.request ≡ Wipe url
      → IsAnswered answers line (Wiped epoch)
      → IsGreatest slot (images_of slot file.was) greatest → greatest < epoch.version
      → (crashed : List (List ℕ)) → IsCrashImage file.cells crashed → (e : Entry) → IsComplete slot crashed e → e.version ≢ epoch.version

-- By the plain store.

-- an entry of the plain store that the file had at the opening, or that a `save` line stored
abbrev pub WasKept : (slots : ℕ) → List Line → PlainEntry → Type 0
WasKept slots script e = (e.offer < slots)
    ⊎ ((line : Line) × Contains script line × (line.number ≡ e.offer - slots) × IsSave line.request)

-- a rebuild of these images keeps each entry of the plain store that is whole and not doomed, and of which P holds
abbrev pub KeepsWhole : (slot anchors : ℕ) → List (List ℕ) → Plain → (PlainEntry → Type 0) → Type 0
KeepsWhole slot anchors images p P = (a : ℕ) (e : PlainEntry) → a < anchors → entry_at p a ≡ Some e → e.life ≡ Whole
    → (place_at p a).doom ≡ false → P e → KeepsAt slot anchors images a (place_at p a).version e.url e.body
