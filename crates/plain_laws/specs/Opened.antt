-- Entries that a file has room for.
use Rattle.std.specs.Prelude.{ℕ, ◌≤◌, List, length, sum_by, All, Some}
use Rattle.rebuild_model.specs.Entry.{Entry as FileEntry}
use Rattle.rebuild_model.specs.Rebuilt.{IsWinner}
use Rattle.plain_model.specs.declared.kept.Kept.{Kept}
use Rattle.plain_model.specs.declared.store.Plain.{Plain}
use Rattle.plain_model.specs.declared.store.Setting.{Setting}
use Rattle.plain_model.specs.Opening.{entry_kept}
use Rattle.plain_model.specs.Slots.{held, held_by}
use Rattle.plain_model.specs.Store.{place_at}

-- all of them together hold no more slots than there are, and none has a version above the greatest
pub record FitsFile (s : Setting) (kept : List Kept) (greatest : ℕ) : Type 0 where
  pub slots : sum_by (λ k. held_by s.room (Some (entry_kept k))) kept ≤ s.slots
  pub versions : All (λ k. k.version ≤ greatest) kept

-- the anchor holds no more slots than the entry of the file has that a rebuild keeps there
pub record HoldsOfFile (slot : ℕ) (images : List (List ℕ)) (anchors anchor room : ℕ) (p : Plain) : Type 0 where
  -- an entry
  pub file : FileEntry
  -- that a rebuild of the file keeps at the anchor
  pub winner : IsWinner slot images anchors anchor file
  -- so many slots at most
  pub few : held room (place_at p anchor) ≤ length file.chain
