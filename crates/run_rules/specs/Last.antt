-- The words of the anchors at the end of a run, when all lines had been served and the store was closed. They are not printed.
use Rattle.std.specs.Prelude.{IsTrue, List, ◌<◌, ◌≡◌, ◌≤◌, ◌⊎◌, ℕ}
use Rattle.lock_word.specs.Words.{epoch_of, stage_of, version_of}
use Rattle.core_model.specs.Anchors.{opening_counter, opening_epoch}
use Rattle.core_model.specs.Holders.{IsFinished}
use Rattle.core_model.specs.Versions.{Leads}
use Rattle.line_account.specs.Answers.{Run}
use Rattle.line_account.specs.Closing.{BegunIn, PurgedIn, ShownIn, StoredIn, Worker}
use Rattle.line_account.specs.Printed.{GivenBackIn, HadEntry}
use Rattle.lock_word.specs.declared.stage.Stage.TheVariants.{Closed, Freeing, Gone}
use Rattle.line_account.specs.EpochNames.{IsAtStage, IsDoomed, IsFromStage, IsUndoomed}

module _ {X : Type 0} (r : Run X) (crew : List Worker) (last : ℕ → ℕ) where
  -- what stood at the anchor: an epoch, its version and its stage
  abbrev pub last_epoch : ℕ → ℕ
  last_epoch a = epoch_of (last a)

  abbrev pub last_version : ℕ → ℕ
  last_version a = version_of (last_epoch a)

  abbrev pub last_stage : ℕ → ℕ
  last_stage a = stage_of (last_epoch a)

  -- They are words that the lines explain, as they explain the epochs that they show.
  pub record AreLastWords : Type 0 where
    -- Nobody reads, writes or frees any more: an anchor is at EMPTY, at CLOSED and not doomed, or at GONE.
    pub finished : (a : ℕ) → a < r.setting.anchors → IsFinished (last a)
    -- No line shows a later epoch there.
    pub latest : (a e : ℕ) → ShownIn r crew a e → e ≤ last_epoch a
    -- And none shows the same version at a stage that comes later.
    pub leads : (a e : ℕ) → ShownIn r crew a e → version_of e ≡ last_version a → Leads (stage_of e) (last_stage a)
    -- A version of the opening is the one that the anchor had then, at the stage that it had, or given back.
    pub old : (a : ℕ) → a < r.setting.anchors → last_version a ≤ opening_counter r.setting
        → (last_version a ≡ version_of (opening_epoch r.setting a))
        × ((last_stage a ≡ stage_of (opening_epoch r.setting a)) ⊎ (IsFromStage Freeing (last_epoch a) × HadEntry r a))
    -- A later one was begun there by a line.
    pub new : (a : ℕ) → a < r.setting.anchors → opening_counter r.setting < last_version a → BegunIn r crew a (last_version a)
    -- It is at CLOSED only where a line of its writing printed STORED.
    pub stored : (a : ℕ) → a < r.setting.anchors → opening_counter r.setting < last_version a → IsAtStage Closed (last_epoch a)
        → StoredIn r crew a (last_version a)
    -- A doomed one was purged or wiped by a line.
    pub purged : (a : ℕ) → a < r.setting.anchors → IsDoomed (last_epoch a) → PurgedIn r crew a (last_version a)
    -- One at GONE that is not doomed was given up in its writing; or the run does not fit, it was whole, and some line may have evicted it.
    pub given_back : (a : ℕ) → a < r.setting.anchors → IsAtStage Gone (last_epoch a) → IsUndoomed (last_epoch a)
        → GivenBackIn r crew a (last_version a)
    -- In a run that fits it is none of the opening: the file's entries stand, but where lines purged, wiped or replaced them.
    pub given_back_new : IsTrue r.fits → (a : ℕ) → a < r.setting.anchors → IsAtStage Gone (last_epoch a) → IsUndoomed (last_epoch a)
        → opening_counter r.setting < last_version a
