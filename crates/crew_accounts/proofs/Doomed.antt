-- What a purge and a wipe have in common: an entry was doomed.
use Rattle.std.proofs.Common.{Bool, List, true, ◌≡◌, ℕ}
use Rattle.lock_word.specs.Life.{IsReadable}
use Rattle.lock_word.specs.Words.{doomed, epoch_number, epoch_of}
use Rattle.lock_word.specs.declared.epoch.Epoch.{Epoch}
use Rattle.store_key.specs.Key.{key_of}
use Rattle.core_model.specs.Tabs.{tab_at}
use Rattle.core_model.specs.declared.moves.Move.TheVariants.{Doom}
use Rattle.core_model.specs.declared.tab.Tab.TheVariants.{Reading}
use Rattle.core_model.specs.declared.view.View.{View}
use Rattle.store_rule.specs.Calls.{IsFresh}
use Rattle.store_rule.specs.Ground.{Ground, anchor_for}
use Rattle.store_rule.specs.Told.{Steps}
use Rattle.slice_chain.specs.Names.{KeyLoaded}
use Rattle.rock_reader.specs.Opening.{Came, opened}
use Rattle.purge_entry.specs.Purging.{Purged}
use Rattle.purge_entry.specs.Wiping.{WipedAsLast}
use Rattle.store_serve.specs.Growing.{GrowsTo}
use Rattle.store_serve.proofs.Readers as readers
use Rattle.store_serve.proofs.Wipes as wipes

-- The tab came to the anchor of the URL. The entry found there could be read, its key was loaded, which is the URL's, and it was doomed.
-- What the pass knew then it knows at the end.
pub record HasDoomed {X : Type 0} (g : Ground X) (t : ℕ) (url : List ℕ) (v : View X) (left : Epoch) (w : View X) : Type 0 where
  pub epoch : Epoch
  pub entered : View X
  pub came : Came g t url v epoch entered w
  pub readable : IsReadable epoch
  pub keyed : View X
  pub key : KeyLoaded g t entered (key_of url) keyed
  pub reads : tab_at keyed t ≡ Reading (opened (anchor_for g url) epoch.version)
  pub word : ℕ
  pub after : View X
  pub doom : Steps g keyed (Doom t) word after
  pub left_is : epoch_number left ≡ epoch_of (doomed word)
  pub known : GrowsTo after w
  pub dooms : left.doom ≡ true
  pub version_is : left.version ≡ epoch.version
  pub fresh : IsFresh (anchor_for g url) (epoch_number left) v w

module _ {X : Type 0} (g : Ground X) (t : ℕ) (url : List ℕ) (v w : View X) (left : Epoch) where
  abbrev pub of_purge : Purged g t url v left w → HasDoomed g t url v left w
  of_purge h = record {
    epoch = h.epoch;
    entered = h.entered;
    came = h.came;
    readable = h.readable;
    keyed = h.entry.keyed;
    key = h.entry.key;
    reads = h.entry.reads;
    word = h.entry.word;
    after = h.entry.after;
    doom = h.entry.doom;
    left_is = h.entry.left_is;
    known = readers.parted g t h.entry.after w h.entry.parted;
    dooms = h.dooms;
    version_is = h.version_is;
    fresh = h.fresh;
  }

  abbrev pub of_wipe : (done : Bool) → WipedAsLast g t url done v left w → HasDoomed g t url v left w
  of_wipe done h = record {
    epoch = h.epoch;
    entered = h.entered;
    came = h.came;
    readable = h.readable;
    keyed = h.entry.keyed;
    key = h.entry.key;
    reads = h.entry.reads;
    word = h.entry.word;
    after = h.entry.after;
    doom = h.entry.doom;
    left_is = h.entry.left_is;
    known = wipes.last_leaves g t h.entry;
    dooms = h.dooms;
    version_is = h.version_is;
    fresh = h.fresh;
  }
