-- An entry is purged on the disk too. The inner tab of the pass comes to its anchor, dooms it and leaves. Where it was the last user it
-- wipes the first slot, before it gives a slot back.
use Rattle.std.specs.Prelude.{Bool, Contains, Err, List, Ok, Result, false, true, ◌-◌, ◌<◌, ◌≡◌, ◌≢◌, ◌⊎◌, ℕ}
use Rattle.lock_word.specs.Life.{IsReadable}
use Rattle.lock_word.specs.Words.{doomed, epoch_number, epoch_of, readers_of, stage_of}
use Rattle.lock_word.specs.declared.epoch.Epoch.{Epoch}
use Rattle.store_key.specs.Key.{key_of}
use Rattle.core_model.specs.Tabs.{anchor_of, inner, tab_at, with_tab}
use Rattle.core_model.specs.declared.moves.Move.TheVariants.{Doom, Evict, Leave}
use Rattle.core_model.specs.declared.tab.Tab.TheVariants.{Free, Reading}
use Rattle.core_model.specs.declared.view.Sight.TheVariants.{Wiped as WipedSight}
use Rattle.core_model.specs.declared.view.View.{View}
use Rattle.store_rule.specs.Ground.{Ground, anchor_for}
use Rattle.store_rule.specs.Told.{Steps}
use Rattle.store_rule.specs.Calls.{IsFresh}
use Rattle.rw_anchor.specs.Calls.{Leaves}
use Rattle.rw_anchor.specs.declared.Left.{Left}
use Rattle.slice_chain.specs.Freeing.{Freed}
use Rattle.slice_chain.specs.Names.{KeyLoaded}
use Rattle.slice_chain.specs.Wiping.{WipedFirst}
use Rattle.slice_chain.specs.Written.{StoppedAt, calls_to_write}
use Rattle.rock_reader.specs.Opening.{Came, Refused, opened}
use Rattle.purge_entry.specs.Purging.{Purged}
use Rattle.purge_entry.specs.declared.wiping.Wiped.{Wiped}
use Rattle.purge_entry.specs.declared.wiping.Wiped.TheVariants.{Gone, Later}
use Rattle.purge_entry.specs.declared.wiping.WipeFault.{WipeFault}
use Rattle.purge_entry.specs.declared.wiping.WipeFault.TheVariants.{Fault, NoEntry}

-- The call was not the last user.

-- the word counts readers, or its entry is neither closed nor halted
abbrev pub IsInUse : ℕ → Type 0
IsInUse n = (0 < readers_of n) ⊎ ((stage_of (epoch_of n) ≢ 3) × (stage_of (epoch_of n) ≢ 4))

module _ {X : Type 0} (g : Ground X) (t : ℕ) (v w : View X) where
  -- the word that the tab left is that of an entry which is in use
  pub record LeftInUse : Type 0 where
    -- the word that it found, which counted the tab too
    pub found : ℕ
    pub leave : Steps g v (Leave t) found w
    -- the word that it left has one reader less
    pub used : IsInUse (found - 1)

  -- The tab left, and tried to have the entry freed. It found another word than the one that it had left: another pass came before it.
  pub record WasOvertaken : Type 0 where
    -- the word that it found when it left
    pub found : ℕ
    pub middle : View X
    pub leave : Steps g v (Leave t) found middle
    -- the word that it found when it tried
    pub other : ℕ
    pub tries : Steps g middle (Evict t (anchor_of (tab_at v t))) other w
    pub differs : other ≢ found - 1

-- The entry was purged as by `purge`, and the tab left it to others.
pub record LeftToOthers {X : Type 0} (g : Ground X) (t : ℕ) (url : List ℕ) (v : View X) (left : Epoch) (w : View X) : Type 0 where
  pub purged : Purged g t url v left w
  -- why it is not this call that frees the entry
  pub why : LeftInUse g t purged.entry.after w ⊎ WasOvertaken g t purged.entry.after w

-- The call was the last user.

-- The first slot of the chain that the inner tab frees was wiped, or the station failed at that. Then each slot was given back.
pub record WipedAndFreed {X : Type 0} (g : Ground X) (done : Bool) (v w : View X) : Type 0 where
  -- the view behind the wiping, from which each slot is given back
  pub blanked : View X
  pub wiped : WipedFirst g v done blanked
  pub freed : Freed g blanked w
  pub tabs : w.tabs ≡ with_tab v inner Free

-- The key kept for the version was loaded, which is the wanted one. The entry was doomed, and the tab left it as its last user. Then its
-- first slot was wiped, or the station failed at that, and each slot was given back.
pub record WipedEntry {X : Type 0} (g : Ground X) (t anchor : ℕ) (wanted : List ℕ) (epoch : Epoch) (done : Bool) (v : View X) (left : Epoch) (w : View X) : Type 0 where
  pub keyed : View X
  pub key : KeyLoaded g t v wanted keyed
  -- while the tab was there it read the version
  pub reads : tab_at keyed t ≡ Reading (opened anchor epoch.version)
  pub word : ℕ
  pub after : View X
  pub doom : Steps g keyed (Doom t) word after
  pub left_is : epoch_number left ≡ epoch_of (doomed word)
  -- the view from which the inner tab has the slots of the entry
  pub last : View X
  pub leaves : Leaves g after t Left.MustFree last
  pub ends : WipedAndFreed g done last w
  -- the chain whose first slot was wiped is that of the entry
  pub anchor_is : ends.wiped.wiped.freer.anchor ≡ anchor
  pub version_is : ends.wiped.wiped.freer.version ≡ epoch.version
  -- where it was done, the pass has seen so
  pub seen : done ≡ true → Contains w.seen (WipedSight anchor epoch.version ends.wiped.slot)

-- The first step counted the tab at the anchor of the URL. The entry found there could be read and has the URL's key, and was doomed. The
-- tab was its last user, and wiped its first slot, or failed at that. The epoch that the doom left is of the version found, has the doom
-- bit, and is not older than what the pass had seen there.
pub record WipedAsLast {X : Type 0} (g : Ground X) (t : ℕ) (url : List ℕ) (done : Bool) (v : View X) (left : Epoch) (w : View X) : Type 0 where
  pub epoch : Epoch
  pub entered : View X
  pub came : Came g t url v epoch entered w
  pub readable : IsReadable epoch
  pub entry : WipedEntry g t (anchor_for g url) (key_of url) epoch done entered left w
  pub dooms : left.doom ≡ true
  pub version_is : left.version ≡ epoch.version
  pub fresh : IsFresh (anchor_for g url) (epoch_number left) v w

-- What each answer says.

module _ {X : Type 0} (g : Ground X) (url : List ℕ) (v w : View X) where
  abbrev pub WipedTells : Wiped → Type 0
  WipedTells (Gone epoch) = WipedAsLast g inner url true v epoch w
  WipedTells (Later epoch) = LeftToOthers g inner url v epoch w

  abbrev pub FaultTells : WipeFault → Type 0
  FaultTells (NoEntry cause) = Refused g inner url v cause w
  FaultTells Fault = (left : Epoch) × WipedAsLast g inner url false v left w

-- how often the station was called: for a write and a sync where the slot was wiped, and not at all where there was nothing to wipe
abbrev pub CallsMade : Result Wiped WipeFault → (before after : ℕ) → Type 0
CallsMade (Ok (Gone epoch)) before after = after ≡ calls_to_write true before
CallsMade (Ok (Later epoch)) before after = after ≡ before
CallsMade (Err (NoEntry cause)) before after = after ≡ before
CallsMade (Err Fault) before after = StoppedAt true before after
