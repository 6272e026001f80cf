-- What a worker's shelf is to its callers, and what leaving its tabs comes to.
use Rattle.std.specs.Prelude.{Bool, List, [], length, replicate, slice_index_or, suc, true, zero, ◌+◌, ◌<◌, ◌∷◌, ◌≡◌, ◌≤◌, ◌⊎◌, ℕ}
use Rattle.rock_disk.specs.Cell.{CellState}
use Rattle.core_model.specs.Tabs.{is_free, tab_at}
use Rattle.slot_cell.specs.declared.header.TheConstants.{HEADER_SIZE}
use Rattle.script_text.specs.declared.answer.Answer.{Answer}
use Rattle.script_text.specs.declared.line.Line.{Line}
use Rattle.store_rule.specs.declared.store.Pass.{Pass}
use Rattle.store_rule.specs.declared.store.Store.{Store}
use Rattle.store_rule.specs.Ground.{Offers}
use Rattle.store_rule.specs.Notes.{learning, noting}
use Rattle.store_rule.specs.Passes.{IsNoteOf, Keeps, KeepsRoom, basis, hand, note_seen, view}
use Rattle.store_rule.specs.declared.store.Note.{Note}
use Rattle.store_serve.specs.Reading.{Parted}
use Rattle.store_serve.specs.Serving.{Serves}
use Rattle.store_serve.specs.Tabs.{Holds, IsFree, IsReading, IsReady, IsWriting, Leaves}
use Rattle.store_serve.specs.Whole.{whole_tab}
use Rattle.store_serve.specs.Writing.{Halts}
use Rattle.store_serve.specs.declared.tabs.ScriptTab.{ScriptTab}
use Rattle.store_serve.specs.declared.tabs.ScriptTab.TheVariants.{Free}
use Rattle.worker_shelf.specs.declared.shelf.ShelfRoom.{ShelfRoom}
use Rattle.worker_shelf.specs.Typed.{IsTyped}

abbrev pub kept_at : List ScriptTab → ℕ → ScriptTab
kept_at tabs t = slice_index_or tabs t Free

-- what a shelf stands on: the store, its pass of it, and its station
pub record OnShelf (C O St : Type 0) : Type 0 where
  pub store : Store C O
  pub pass : Pass C
  pub station : St

-- room for a shelf of a store with slots of this size: nothing is kept of any tab, and what a slot may add to a body fits
pub record IsRoomFor (slot : ℕ) (room : ShelfRoom) : Type 0 where
  pub tabs : room.tabs.items ≡ replicate whole_tab Free
  pub piece : slot ≤ length room.piece.items + HEADER_SIZE

-- the tab is free, where the pass has one of this number
abbrev pub HasFree : {C : Type 0} → Pass C → ℕ → Type 0
HasFree p t = t < 9 → is_free (tab_at (view p) t) ≡ true

-- all tabs of the pass are free
abbrev pub AllFree : {C : Type 0} → Pass C → Type 0
AllFree p = (t : ℕ) → HasFree p t

module _ {C O : Type 0} (tells : Bool) (state : C → CellState) (offers : O → Offers) (s : Store C O) where
  -- what is kept of each tab of the script is so with the pass, and the tab of whole requests is free
  pub record AllHold (p : Pass C) (tabs : List ScriptTab) : Type 0 where
    pub ready : IsReady tells state offers s p
    pub count : length tabs ≡ whole_tab
    pub each : (t : ℕ) → t < whole_tab → Holds tells state offers s p t (kept_at tabs t)
    pub whole : IsFree p whole_tab

  -- A tab was left: a free one stays as it was, one that read was closed, and what one wrote was given up.
  abbrev pub LeavesFree : ℕ → (p q : Pass C) → Type 0
  LeavesFree t p q = IsFree p t × (q ≡ p)

  abbrev pub LeavesReader : ℕ → (p q : Pass C) → Type 0
  LeavesReader t p q = IsReading tells state offers s p t × Parted (basis tells state offers s) t (view p) (view q)

  abbrev pub LeavesWriter : ℕ → (p q : Pass C) → Type 0
  LeavesWriter t p q = IsWriting tells state offers s p t × Halts (basis tells state offers s) t (view p) (view q)

  pub record LeftTab (t : ℕ) (p q : Pass C) : Type 0 where
    pub how : LeavesFree t p q ⊎ LeavesReader t p q ⊎ LeavesWriter t p q
    pub free : IsFree q t
    pub leaves : Leaves tells state offers s t p q
    pub stays : q.hand ≡ p.hand

  -- the tabs below this one were left, one after the other, from tab 0 on
  abbrev pub LeftBelow : ℕ → (p q : Pass C) → Type 0
  LeftBelow zero p q = q ≡ p
  LeftBelow (suc t) p q = (middle : Pass C) × LeftBelow t p middle × LeftTab t middle q

  -- If it is the first pass of the store, it keeps an emptied vector with room for all cells.
  abbrev pub KeepsCells : Pass C → Type 0
  KeepsCells p = (view p).pass ≡ 0 → KeepsRoom (basis tells state offers s).setting.slots (p ∷ [])

  -- A shelf keeps its tabs so, and has room for what a slot may add to a body. Its pass has no place out, and keeps what the end of the
  -- store asks for.
  pub record HasShelf (p : Pass C) (tabs : List ScriptTab) (piece : List ℕ) : Type 0 where
    pub holds : AllHold p tabs
    pub home : hand p ≡ []
    pub cells : KeepsCells p
    pub room : (basis tells state offers s).slot ≤ length piece + HEADER_SIZE

module _ {C O St : Type 0} (tells : Bool) (state : C → CellState) (offers : O → Offers) (faults : St → ℕ) where
  -- A shelf served a line, on its store, with its pass and its station. The answer fits its types.
  pub record Went (before : OnShelf C O St) (line : Line) (a : Answer) (after : OnShelf C O St) : Type 0 where
    pub store : after.store ≡ before.store
    pub serves : Serves tells state offers before.store line before.pass a after.pass (faults before.station) (faults after.station)
    pub typed : IsTyped a

module _ {C O St : Type 0} (tells : Bool) (state : C → CellState) (offers : O → Offers) where
  -- It told what its pass had seen, in a note, or learned what one has seen: the pass stood and had at hand what it did.
  pub record Noted (before : OnShelf C O St) (note : Note C) (after : OnShelf C O St) : Type 0 where
    pub store : after.store ≡ before.store
    pub station : after.station ≡ before.station
    pub keeps : Keeps tells state offers before.store before.pass after.pass
    pub view_is : view after.pass ≡ noting (view before.pass)
    pub of_store : IsNoteOf before.store note
    pub seen : note_seen note ≡ (view before.pass).seen

  pub record Learned (before : OnShelf C O St) (note : Note C) (after : OnShelf C O St) : Type 0 where
    pub store : after.store ≡ before.store
    pub station : after.station ≡ before.station
    pub keeps : Keeps tells state offers before.store before.pass after.pass
    pub view_is : view after.pass ≡ learning (view before.pass) (note_seen note)

  -- it left all tabs of the script, in their order
  pub record Left (before after : OnShelf C O St) : Type 0 where
    pub store : after.store ≡ before.store
    pub station : after.station ≡ before.station
    pub left : LeftBelow tells state offers before.store whole_tab before.pass after.pass
