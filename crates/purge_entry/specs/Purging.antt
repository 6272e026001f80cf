-- An entry is purged. The inner tab of the pass comes to its anchor, dooms it and leaves.
use Rattle.std.specs.Prelude.{Bool, List, true, ◌≡◌, ℕ}
use Rattle.lock_word.specs.Life.{IsReadable}
use Rattle.lock_word.specs.Words.{doomed, epoch_number, epoch_of}
use Rattle.lock_word.specs.declared.epoch.Epoch.{Epoch}
use Rattle.rock_disk.specs.Cell.{CellState}
use Rattle.store_key.specs.Key.{key_of}
use Rattle.core_model.specs.Tabs.{InnerIsFree, tab_at}
use Rattle.core_model.specs.declared.moves.Move.TheVariants.{Doom}
use Rattle.core_model.specs.declared.tab.Tab.TheVariants.{Reading}
use Rattle.core_model.specs.declared.view.View.{View}
use Rattle.store_rule.specs.declared.store.Pass.{Pass}
use Rattle.store_rule.specs.declared.store.Store.{Store}
use Rattle.store_rule.specs.Ground.{Ground, MayName, Offers, anchor_for}
use Rattle.store_rule.specs.Passes.{IsOf, basis, view}
use Rattle.store_rule.specs.Told.{Steps}
use Rattle.store_rule.specs.Calls.{IsFresh}
use Rattle.slice_chain.specs.Names.{KeyLoaded}
use Rattle.rock_reader.specs.Closing.{Parted}
use Rattle.rock_reader.specs.Opening.{Came, opened}

module _ {C O : Type 0} (tells : Bool) (state : C → CellState) (offers : O → Offers) where
  -- The inner tab is free, and the pass may name the anchor of the URL.
  pub record MayPurge (s : Store C O) (p : Pass C) (url : List ℕ) : Type 0 where
    pub own : IsOf tells state offers s p
    pub inner_free : InnerIsFree (view p)
    pub names : MayName (basis tells state offers s) (view p) (anchor_for (basis tells state offers s) url)

-- The key kept for the version was loaded, which is the wanted one. The entry was doomed, and the tab left the anchor. While it was there it
-- read that version.
pub record DoomedEntry {X : Type 0} (g : Ground X) (t anchor : ℕ) (wanted : List ℕ) (epoch : Epoch) (v : View X) (left : Epoch) (w : View X) : Type 0 where
  pub keyed : View X
  pub key : KeyLoaded g t v wanted keyed
  pub reads : tab_at keyed t ≡ Reading (opened anchor epoch.version)
  pub word : ℕ
  pub after : View X
  pub doom : Steps g keyed (Doom t) word after
  pub left_is : epoch_number left ≡ epoch_of (doomed word)
  pub parted : Parted g t after w

-- The first step counted the tab at the anchor of the URL. The entry found there could be read and has the URL's key, and was doomed. The
-- epoch that this left is of the version found, has the doom bit, and is not older than what the pass had seen there.
pub record Purged {X : Type 0} (g : Ground X) (t : ℕ) (url : List ℕ) (v : View X) (left : Epoch) (w : View X) : Type 0 where
  pub epoch : Epoch
  pub entered : View X
  pub came : Came g t url v epoch entered w
  pub readable : IsReadable epoch
  pub entry : DoomedEntry g t (anchor_for g url) (key_of url) epoch entered left w
  pub dooms : left.doom ≡ true
  pub version_is : left.version ≡ epoch.version
  pub fresh : IsFresh (anchor_for g url) (epoch_number left) v w
