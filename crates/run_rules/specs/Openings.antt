-- What the anchors of a store had when it was opened over a file.
use Rattle.std.specs.Prelude.{IsTrue, List, ◌<◌, ◌≡◌, ◌⊎◌, ℕ}
use Rattle.rebuild_model.specs.Entry.{Entry}
use Rattle.rebuild_model.specs.Image.{IsGreatest}
use Rattle.rebuild_model.specs.Keeping.{HasNoneAt}
use Rattle.rebuild_model.specs.Rebuilt.{IsWinner}
use Rattle.core_model.specs.Anchors.{opening_counter, opening_epoch}
use Rattle.line_account.specs.Answers.{Run}
use Rattle.line_account.specs.Printed.{IsOldUrl, old_offer}
use Rattle.lock_word.specs.declared.stage.Stage.TheVariants.{Closed, Empty}
use Rattle.line_account.specs.EpochNames.{undoomed_at}

module _ {X : Type 0} (r : Run X) (slot anchors : ℕ) (images : List (List ℕ)) where
  -- The entry that a rebuild of the file keeps at the anchor, closed with its version. Its key stood beside the anchor, and so did its
  -- offer: where the run tells of bytes, this has its URL and its body.
  pub record HadWinner (a : ℕ) : Type 0 where
    -- An entry
    pub entry : Entry
    -- that a rebuild of the file keeps at the anchor.
    pub winner : IsWinner slot images anchors a entry
    -- The anchor was closed with its version.
    pub epoch : opening_epoch r.setting a ≡ undoomed_at Closed entry.version
    -- The halves of the key of its URL stood beside the anchor.
    pub keyed : IsOldUrl r a entry.url
    -- The offer beside the anchor has its URL
    pub url_is : IsTrue r.tells → r.url (old_offer r a) ≡ entry.url
    -- and its body.
    pub body_is : IsTrue r.tells → r.body (old_offer r a) ≡ entry.body

  -- nothing, with version 0
  pub record HadNothing (a : ℕ) : Type 0 where
    -- A rebuild of the file keeps nothing at the anchor.
    pub none : HasNoneAt slot images anchors a
    -- The anchor was empty, with version 0.
    pub epoch : opening_epoch r.setting a ≡ undoomed_at Empty 0

  -- Each anchor had the one or the other, and the counter was at the greatest version of a sane slot of the file.
  pub record BeganWithFile : Type 0 where
    -- What each anchor had.
    pub each : (a : ℕ) → a < anchors → HadWinner a ⊎ HadNothing a
    -- Where the counter stood.
    pub counter : IsGreatest slot images (opening_counter r.setting)
