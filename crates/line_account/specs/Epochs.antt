-- Where the epochs and the versions come from that lines print.
use Rattle.std.specs.Prelude.{IsTrue, List, true, ◌<◌, ◌≡◌, ◌≤◌, ◌⊎◌, ℕ}
use Rattle.lock_word.specs.Words.{epoch_number, stage_of, version_of}
use Rattle.lock_word.specs.declared.epoch.Epoch.{Epoch}
use Rattle.core_model.specs.Anchors.{opening_counter, opening_epoch}
use Rattle.line_account.specs.Answers.{Run, TellsDoom}
use Rattle.line_account.specs.Closing.{BegunIn, HaltedIn, LineIn, PrintsDoomed, PrintsHalted, PurgedIn, ShownIn, SomeHalted, StoredIn}
use Rattle.line_account.specs.Closing.{Worker}
use Rattle.line_account.specs.Order.{PrintsAlone}
use Rattle.line_account.specs.Printed.{Finds, GivenBackIn, HadEntry}
use Rattle.lock_word.specs.declared.stage.Stage.TheVariants.{Appending, Closed, Empty, Freeing, Halted, Taken}
use Rattle.line_account.specs.EpochNames.{IsAtStage, IsDoomed, IsFromStage, IsUndoomed, IsUpToStage}

module _ {X : Type 0} (r : Run X) (crew : List Worker) where
  pub record EpochsHaveCauses : Type 0 where
    -- An epoch with a version of the opening is one of its anchor's entry of then, and not at TAKEN, APPENDING or HALTED:
    pub old : (a e : ℕ) → ShownIn r crew a e → version_of e ≤ opening_counter r.setting
        → (version_of e ≡ version_of (opening_epoch r.setting a)) × (¬ IsAtStage Taken e) × (¬ IsAtStage Appending e)
        × (¬ IsAtStage Halted e)
    -- it is at the stage that the anchor had then, or its entry is given back, which the anchor did have
    pub stage : (a e : ℕ) → ShownIn r crew a e → version_of e ≤ opening_counter r.setting
        → (stage_of e ≡ stage_of (opening_epoch r.setting a)) ⊎ (IsFromStage Freeing e × HadEntry r a)
    -- where the anchor had no entry then, such an epoch is at EMPTY and not doomed
    pub empty : (a e : ℕ) → ShownIn r crew a e → version_of e ≤ opening_counter r.setting → IsAtStage Empty (opening_epoch r.setting a)
        → IsAtStage Empty e × IsUndoomed e
    -- one with a later version has one that a line began there
    pub new : (a e : ℕ) → ShownIn r crew a e → opening_counter r.setting < version_of e → BegunIn r crew a (version_of e)
    -- and is not at EMPTY
    pub begun : (a e : ℕ) → ShownIn r crew a e → opening_counter r.setting < version_of e → IsFromStage Taken e
    -- a version that is printed alone, by BEGUN, STORED, DOOMED, OPEN or HIT, is one that the anchor had at the opening
    pub alone_old : (a x : ℕ) → LineIn crew (λ earlier s. PrintsAlone r.setting.anchors earlier s a x) → x ≤ opening_counter r.setting
        → x ≡ version_of (opening_epoch r.setting a)
    -- or a version that a line began there
    pub alone_new : (a x : ℕ) → LineIn crew (λ earlier s. PrintsAlone r.setting.anchors earlier s a x) → opening_counter r.setting < x
        → BegunIn r crew a x
    -- and OPEN, HIT, PURGED, WIPED, LATER and the PART of a `get` have a version of the opening only where the anchor had an entry then
    pub found_old : (a x : ℕ) (url : List ℕ) → LineIn crew (λ earlier s. Finds r.setting.anchors s a x url) → x ≤ opening_counter r.setting
        → HadEntry r a
    -- a begun version is CLOSED and not doomed only where its writing printed STORED
    pub stored : (a e : ℕ) → ShownIn r crew a e → opening_counter r.setting < version_of e → IsUndoomed e → IsAtStage Closed e
        → StoredIn r crew a (version_of e)
    -- an epoch is at HALTED only where the writing of its version was halted
    pub halted : (a e : ℕ) → ShownIn r crew a e → IsAtStage Halted e → HaltedIn r crew a (version_of e)
    -- HALTED is printed only where a writing at the anchor was halted
    pub halted_line : (a : ℕ) → LineIn crew (λ earlier s. PrintsHalted r.setting.anchors earlier s a) → SomeHalted r crew a
    -- an epoch is doomed only where a line printed PURGED, WIPED or LATER with the version, or a `wipe` there printed FAULT
    pub doomed : (a e : ℕ) → ShownIn r crew a e → IsDoomed e → PurgedIn r crew a (version_of e)
    -- and so is DOOMED printed
    pub doomed_line : (a x : ℕ) → LineIn crew (λ earlier s. PrintsDoomed r.setting.anchors earlier s a x) → PurgedIn r crew a x
    -- a doomed epoch is at APPENDING or later
    pub doomed_stage : (a e : ℕ) → ShownIn r crew a e → IsDoomed e → IsFromStage Appending e
    -- the epoch of PURGED, WIPED and LATER is doomed
    pub purged : (e : Epoch) → LineIn crew (λ earlier s. TellsDoom s.answer e) → e.doom ≡ true
    -- and it is at APPENDING, CLOSED or HALTED
    pub purged_stage : (e : Epoch) → LineIn crew (λ earlier s. TellsDoom s.answer e)
        → IsFromStage Appending (epoch_number e) × IsUpToStage Halted (epoch_number e)
    -- An epoch at HALTED, FREEING or GONE is not doomed only where the writing of its version was halted; or the run does not fit, some
    -- line may have evicted an entry, for it printed STORED, DOOMED, ADDED, FULL, LARGE or FAULT, and its own was whole.
    pub given_back : (a e : ℕ) → ShownIn r crew a e → IsUndoomed e → IsFromStage Halted e → GivenBackIn r crew a (version_of e)
    -- in a run that fits such an epoch has no version of the opening
    pub given_back_new : IsTrue r.fits → (a e : ℕ) → ShownIn r crew a e → IsUndoomed e → IsFromStage Halted e
        → opening_counter r.setting < version_of e
