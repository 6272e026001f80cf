-- What a store that was opened over a file has of it: the words of its anchors, and what its run says of their offers.
use Rattle.std.specs.Prelude.{Bool, IsTrue, List, [], map, ◌<◌, ◌≡◌, ◌⊎◌, ℕ}
use Rattle.rock_disk.specs.Cell.{CellState}
use Rattle.store_key.specs.Anchor.{back_half, front_half}
use Rattle.lock_word.specs.Words.{epoch_at}
use Rattle.rebuild_model.specs.declared.rebuilt.Rebuilt.{Rebuilt}
use Rattle.rebuild_model.specs.Entry.{Entry, IsStored}
use Rattle.rebuild_model.specs.Keeping.{HasNoneAt}
use Rattle.rebuild_model.specs.Rebuilt.{IsWinner}
use Rattle.core_model.specs.declared.moves.Side.TheVariants.{Key0, Key1, Offer}
use Rattle.core_model.specs.declared.view.Place.TheVariants.{Beside}
use Rattle.core_model.specs.Anchors.{opening_counter, opening_epoch}
use Rattle.core_model.specs.Layout.{word_in}
use Rattle.line_account.specs.Answers.{Run}
use Rattle.line_account.specs.Printed.{HadEntry, IsOldUrl, old_offer}
use Rattle.store_rule.specs.declared.store.Store.{Store}
use Rattle.store_rule.specs.Ground.{Ground, Offers}
use Rattle.store_rule.specs.Passes.{basis}
use Rattle.store_rule.specs.Rebuilding.{IsRebuildOf}
use Rattle.crew_accounts.specs.Runs.{IsTold, Past, run_of}

-- A rebuild of a file with these images and so many anchors keeps an entry at the anchor a, and the anchor had it at the opening: it was
-- closed with the version of the entry, and not doomed; beside it stood the first slot as its offer, and the halves of the key; and it had
-- the slots.
pub record HadKept (g : Ground (List ℕ)) (slot anchors : ℕ) (images : List (List ℕ)) (a : ℕ) : Type 0 where
  pub entry : Entry
  pub winner : IsWinner slot images anchors a entry
  pub epoch : opening_epoch g.setting a ≡ epoch_at entry.version 3
  pub offer : word_in g.setting g.setting.words (Beside Offer a) ≡ entry.first
  pub below : entry.first < g.setting.slots
  pub key0 : word_in g.setting g.setting.words (Beside Key0 a) ≡ front_half entry.key
  pub key1 : word_in g.setting g.setting.words (Beside Key1 a) ≡ back_half entry.key
  pub chain : g.chain a ≡ entry.chain

-- No complete entry of such a file has the anchor a. At the opening it was empty with version 0, and had no slots.
pub record HadNone (g : Ground (List ℕ)) (slot anchors : ℕ) (images : List (List ℕ)) (a : ℕ) : Type 0 where
  pub none : HasNoneAt slot images anchors a
  pub epoch : opening_epoch g.setting a ≡ 0
  pub chain : g.chain a ≡ []

-- Each anchor had at the opening what a rebuild of the file keeps there, or nothing, and the counter was at the greatest version of a sane
-- slot. The file is what the cells hold; where they do not tell that, it is some file of as many slots.
pub record OpenedAsKept {C : Type 0} (tells : Bool) (state : C → CellState) (g : Ground (List ℕ)) (slot anchors : ℕ) (cells : List C)
    : Type 0 where
  pub rebuilt : Rebuilt
  pub kept : IsRebuildOf tells state slot anchors cells rebuilt
  pub each : (a : ℕ) → a < anchors → HadKept g slot anchors kept.images a ⊎ HadNone g slot anchors kept.images a
  pub counter : opening_counter g.setting ≡ rebuilt.greatest

-- What a run says of the entry that the anchor a had at the opening is so of a file with these images: it stores the body of the offer
-- beside the anchor under the URL of this offer, and the halves of this URL's key stood beside the anchor.
pub record IsOldEntry (r : Run (List ℕ)) (slot : ℕ) (images : List (List ℕ)) (a : ℕ) : Type 0 where
  pub stored : IsStored slot images (r.url (old_offer r a)) (r.body (old_offer r a))
  pub keyed : IsOldUrl r a (r.url (old_offer r a))

-- There is a past for which the run of the store is as the laws on lines ask. Where the cells tell what they hold, it has the URL and the
-- body of each entry that a rebuild of them keeps, by its first slot; and what the run says of an entry that an anchor had is so of them.
pub record HasPast {C O : Type 0} (tells : Bool) (state : C → CellState) (offers : O → Offers) (slot anchors : ℕ) (cells : List C)
    (s : Store C O) : Type 0 where
  pub past : Past
  pub told : IsTold (basis tells state offers s) tells past tells
  pub winners : IsTrue tells → (a : ℕ) (e : Entry) → IsWinner slot (map (λ c. (state c).now) cells) anchors a e
      → (past.url e.first ≡ e.url) × (past.body e.first ≡ e.body)
  pub old : IsTrue tells → (a : ℕ) → a < anchors → HadEntry (run_of (basis tells state offers s) tells past) a
      → IsOldEntry (run_of (basis tells state offers s) tells past) slot (map (λ c. (state c).now) cells) a
