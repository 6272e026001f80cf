-- Which tab does what: who writes at an anchor, frees its entry, holds the turn at a slot's cell, and reads it.
use Rattle.std.specs.Prelude.{◌≡◌, ◌⊎◌, Contains, None, slice_index_or, true, ℕ}
use mathlib.Core.Option.{some}
use lib.ListN.{get_elem?}
use Rattle.lock_word.specs.Words.{doom_number, doom_of, epoch_of, readers_of, stage_of, version_of}
use Rattle.core_model.specs.declared.tab.Freer.{Freer}
use Rattle.core_model.specs.declared.tab.Hold.{Hold}
use Rattle.core_model.specs.declared.tab.Reader.{Reader}
use Rattle.core_model.specs.declared.tab.Tab.{Tab}
use Rattle.core_model.specs.declared.tab.Turn.TheVariants.{Has}
use Rattle.core_model.specs.declared.tab.Writer.{Writer}
use Rattle.core_model.specs.declared.view.View.{View}
use Rattle.core_model.specs.Layout.{Setting}
use Rattle.core_model.specs.State.{State, chain_of, turn_word, word}
use Rattle.core_model.specs.Tabs.{stage_written, turn_of}

-- a pass has this tab
pub record IsTab {X : Type 0} (s : State X) (i t : ℕ) (tab : Tab X) : Type 0 where
  pub view : View X
  pub at : get_elem? s.views i ≡ some view
  pub there : get_elem? view.tabs t ≡ some tab

-- the word of a writing tab's anchor has the version and the stage that the tab knows
pub record MatchesWriter {X : Type 0} (s : State X) (w : Writer X) : Type 0 where
  pub version_is : version_of (epoch_of (word s w.anchor)) ≡ w.version
  pub stage_is : stage_of (epoch_of (word s w.anchor)) ≡ stage_written w

-- some tab writes at the anchor
pub record HasWriter {X : Type 0} (s : State X) (a : ℕ) : Type 0 where
  pub i : ℕ
  pub t : ℕ
  pub writer : Writer X
  pub tab : IsTab s i t (Tab.Writing writer)
  pub anchor_is : writer.anchor ≡ a
  pub matches : MatchesWriter s writer

-- the word of the anchor of a tab that frees, where it is at FREEING, has the version and the doom that the tab knows
pub record MatchesFreer {X : Type 0} (s : State X) (f : Freer X) : Type 0 where
  pub version_is : version_of (epoch_of (word s f.anchor)) ≡ f.version
  pub doom_is : doom_of (epoch_of (word s f.anchor)) ≡ doom_number f.is_doomed

-- some inner tab frees its entry
pub record HasFreer {X : Type 0} (s : State X) (a : ℕ) : Type 0 where
  pub i : ℕ
  pub t : ℕ
  pub freer : Freer X
  pub tab : IsTab s i t (Tab.Freeing freer)
  pub anchor_is : freer.anchor ≡ a
  pub is_so : freer.is_freeing ≡ true

-- a tab holds the turn at this slot
pub record HasHolder {X : Type 0} (s : State X) (slot : ℕ) : Type 0 where
  pub i : ℕ
  pub t : ℕ
  pub tab : Tab X
  pub is_tab : IsTab s i t tab
  pub hold : Hold X
  pub turn : turn_of tab ≡ Has hold
  pub slot_is : hold.slot ≡ slot

-- the turn word of a slot whose turn a tab holds says so, and the cell is with the tab
pub record IsAway {X : Type 0} (k : Setting X) (s : State X) (slot : ℕ) : Type 0 where
  pub taken : turn_word k s slot ≡ 1
  pub empty : slice_index_or s.places slot None ≡ None

-- a tab that writes holds the turn at this slot: only then may it have the cell out, and write it, or one that frees, which is below
pub record IsBeingWritten {X : Type 0} (s : State X) (slot : ℕ) : Type 0 where
  pub i : ℕ
  pub t : ℕ
  pub writer : Writer X
  pub is_tab : IsTab s i t (Tab.Writing writer)
  pub hold : Hold X
  pub turn : writer.turn ≡ Has hold
  pub slot_is : hold.slot ≡ slot

-- the tab t of the pass i frees, and holds the turn at this slot, to wipe it
pub record IsWipedBy {X : Type 0} (s : State X) (slot i t : ℕ) : Type 0 where
  pub freer : Freer X
  pub is_tab : IsTab s i t (Tab.Freeing freer)
  pub hold : Hold X
  pub turn : freer.turn ≡ Has hold
  pub slot_is : hold.slot ≡ slot

abbrev pub IsBeingWiped : {X : Type 0} → State X → ℕ → Type 0
IsBeingWiped s slot = (i : ℕ) × (t : ℕ) × IsWipedBy s slot i t

-- a tab reads an entry that has this slot, or holds the turn there
pub record IsBeingRead {X : Type 0} (s : State X) (slot : ℕ) : Type 0 where
  pub i : ℕ
  pub t : ℕ
  pub reader : Reader X
  pub is_tab : IsTab s i t (Tab.Reading reader)
  pub there : Contains (chain_of s reader.anchor).slots slot ⊎ ((hold : Hold X) × (reader.turn ≡ Has hold) × (hold.slot ≡ slot))

-- each tab of each pass is free
abbrev pub AllFree : {X : Type 0} → State X → Type 0
AllFree {X} s = (i : ℕ) (v : View X) → get_elem? s.views i ≡ some v → (t : ℕ) (tab : Tab X) → get_elem? v.tabs t ≡ some tab → tab ≡ Tab.Free

-- Nothing is left to do for a word: nobody is counted, nobody writes or frees, and no entry waits to be freed.
pub record IsFinished (n : ℕ) : Type 0 where
  pub readers : readers_of n ≡ 0
  pub stage : (stage_of (epoch_of n) ≡ 0) ⊎ (stage_of (epoch_of n) ≡ 3) ⊎ (stage_of (epoch_of n) ≡ 6)
  pub closed : stage_of (epoch_of n) ≡ 3 → doom_of (epoch_of n) ≡ 0
