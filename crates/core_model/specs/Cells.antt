-- What holds between any two steps of cells and their turns, of published contents, and of the names of entries.
use Rattle.std.specs.Prelude.{◌<◌, ◌==◌, ◌∷◌, ◌≡◌, ◌≢◌, ◌≤◌, ◌⊎◌, Contains, None, Some, [], cond, false, length, slice_index_or, sum_by, true, ℕ}
use mathlib.Core.Option.{some}
use lib.ListN.{get_elem?}
use Rattle.lock_word.specs.Words.{epoch_of, stage_of, version_limit, version_of}
use Rattle.link_word.specs.declared.link.Link.TheVariants.{NotWritten}
use Rattle.core_model.specs.declared.moves.Side.{Side}
use Rattle.core_model.specs.declared.moves.Side.TheVariants.{Offer, Start}
use Rattle.core_model.specs.declared.tab.Cell.{Cell}
use Rattle.core_model.specs.declared.tab.Hold.{Hold}
use Rattle.core_model.specs.declared.tab.Piece.{Piece}
use Rattle.core_model.specs.declared.tab.Tab.{Tab}
use Rattle.core_model.specs.declared.tab.Tab.TheVariants.{Freeing, Reading, Writing}
use Rattle.core_model.specs.declared.tab.Turn.{Turn as TurnOf}
use Rattle.core_model.specs.declared.tab.Turn.TheVariants.{Has, NoTurn}
use Rattle.core_model.specs.declared.tab.Writer.{Writer}
use Rattle.core_model.specs.declared.view.Place.TheVariants.{Beside}
use Rattle.core_model.specs.declared.view.Sight.TheVariants.{Named}
use Rattle.core_model.specs.declared.view.View.{View}
use Rattle.core_model.specs.Layout.{Setting, word_in}
use Rattle.core_model.specs.Chains.{first_of, link_at, rest_of}
use Rattle.core_model.specs.State.{State, chain_of, side_word, turn_word, word}
use Rattle.core_model.specs.Tabs.{count, turn_of}
use Rattle.core_model.specs.SlotMoves.{IsNext}
use Rattle.core_model.specs.CellMoves.{MayWipe}
use Rattle.core_model.specs.Anchors.{opening_counter}

-- 1 where the tab holds the turn at this slot
abbrev pub turn_at : {X : Type 0} → ℕ → TurnOf X → ℕ
turn_at slot NoTurn = 0
turn_at slot (Has h) = cond (h.slot == slot) 1 0

abbrev pub holds_at : {X : Type 0} → ℕ → Tab X → ℕ
holds_at slot tab = turn_at slot (turn_of tab)

-- A turn that is taken is held by one tab, which has the cell; where it is free the cell is home.
pub record OneHolder {X : Type 0} (k : Setting X) (s : State X) : Type 0 where
  pub turns : (slot : ℕ) → slot < k.slots → turn_word k s slot ≡ sum_by (count (holds_at slot)) s.views  -- who holds it is counted in the word
  pub few : (slot : ℕ) → slot < k.slots → turn_word k s slot ≤ 1  -- one at most
  pub home : (slot : ℕ) → slot < k.slots → turn_word k s slot ≡ 0 → (c : Cell X) × (slice_index_or s.places slot None ≡ Some c)  -- a cell whose turn is free is in its place
  pub away : (slot : ℕ) → slot < k.slots → turn_word k s slot ≡ 1 → slice_index_or s.places slot None ≡ None  -- one whose turn is taken is not

-- A writing tab holds the turn of its first reserved slot, a reading one that of the slot at its place, whose link it found
-- written, a freeing one that of the first slot of a doomed entry, before any slot has left its chain. So a cell is never out at a tab that
-- writes it while a tab reads its slot.
abbrev pub TurnFits : {X : Type 0} → Setting X → State X → Tab X → Type 0
TurnFits {X} k s (Reading r) = (h : Hold X) → r.turn ≡ Has h → (h.slot < k.slots) × IsNext s h.slot r × (r.found ≢ NotWritten)
TurnFits {X} k s (Writing w) = (h : Hold X) → w.turn ≡ Has h → (h.slot < k.slots) × (w.reserved ≡ h.slot ∷ rest_of w.reserved)
TurnFits {X} k s (Freeing f) = (h : Hold X) → f.turn ≡ Has h → (h.slot < k.slots) × MayWipe h.slot f
TurnFits k s _ = Unit {0}

-- the cell of a slot, at home or at the tab that holds its turn
pub record IsHeldCell {X : Type 0} (s : State X) (slot : ℕ) (c : Cell X) : Type 0 where
  pub i : ℕ
  pub view : View X
  pub at : get_elem? s.views i ≡ some view
  pub t : ℕ
  pub tab : Tab X
  pub there : get_elem? view.tabs t ≡ some tab
  pub hold : Hold X
  pub turn : turn_of tab ≡ Has hold
  pub slot_is : hold.slot ≡ slot
  pub cell_is : hold.cell ≡ c

abbrev pub IsCell : {X : Type 0} → State X → ℕ → Cell X → Type 0
IsCell s slot c = (slice_index_or s.places slot None ≡ Some c) ⊎ IsHeldCell s slot c

-- The content that the slot at a place of an anchor's chain has: the opening's, where the entry stood then, and else the image of
-- its piece of what was offered.
abbrev pub IsContent : {X : Type 0} → Setting X → State X → ℕ → ℕ → ℕ → X → Type 0
IsContent k s a place slot x =
    ((side_word k s Offer a < k.slots) × (get_elem? k.contents slot ≡ some x))
    ⊎ ((k.slots ≤ side_word k s Offer a) × (x ≡ k.image record {
      offer = side_word k s Offer a;
      version = version_of (epoch_of (word s a));
      place = place;
      first = first_of (chain_of s a).slots;
      next = link_at (chain_of s a) place;
    }))

pub record ContentsStand {X : Type 0} (k : Setting X) (s : State X) : Type 0 where
  pub published : (a place slot : ℕ) (c : Cell X) → a < k.anchors → get_elem? (chain_of s a).slots place ≡ some slot → IsCell s slot c → IsContent k s a place slot c.now
  pub possible : (slot : ℕ) (c : Cell X) → IsCell s slot c → Contains c.possible c.now

-- The first reserved slot of a writing tab, whose cell is home and has the image of this piece, and has it alone where the tab knows
-- that it was synced.
pub record IsHome {X : Type 0} (k : Setting X) (s : State X) (w : Writer X) (p : Piece) : Type 0 where
  pub slot : ℕ
  pub first : w.reserved ≡ slot ∷ rest_of w.reserved
  pub cell : Cell X
  pub home : slice_index_or s.places slot None ≡ Some cell
  pub written : cell.now ≡ k.image p
  pub settled : w.is_settled ≡ true → cell.possible ≡ cell.now ∷ []

-- A writing tab has a new version within the limit, and the offer that it stored is no slot's number. Until it gives a slot back, the piece that it
-- chose is for its first reserved slot, and is in that slot's cell once it is written. A cell that it holds and synced has one possible
-- content.
pub record WriterPiece {X : Type 0} (k : Setting X) (s : State X) (w : Writer X) : Type 0 where
  pub drawn : opening_counter k < w.version  -- its version is new
  pub fits : w.version ≤ version_limit  -- and fits a header
  pub offer : (x : ℕ) → w.offer ≡ Some x → k.slots ≤ x  -- an offer is no slot
  pub logged : w.chosen ≡ None → (w.logged_in ≡ None) × (w.turn ≡ NoTurn)  -- a tab that logged no piece holds no turn
  pub home : (p : Piece) → w.is_ending ≡ false → w.is_written ≡ true → w.chosen ≡ Some p → IsHome k s w p  -- a piece that was written is in its cell
  pub held : (p : Piece) (h : Hold X) → w.turn ≡ Has h → h.is_written ≡ true → w.chosen ≡ Some p → h.cell.now ≡ k.image p  -- in the tab's hands too
  pub synced : (h : Hold X) → w.turn ≡ Has h → h.is_settled ≡ true → h.cell.possible ≡ h.cell.now ∷ []  -- a cell that was synced has one content

abbrev pub TabPiece : {X : Type 0} → Setting X → State X → Tab X → Type 0
TabPiece k s (Writing w) = WriterPiece k s w
TabPiece k s _ = Unit {0}

-- a view has this number as a part of the name of the entry
pub record IsNamed {X : Type 0} (s : State X) (a version : ℕ) (side : Side) (value : ℕ) : Type 0 where
  pub i : ℕ
  pub view : View X
  pub at : get_elem? s.views i ≡ some view
  pub seen : Contains view.seen (Named a version side value)

-- Beside an anchor that has a published slot stand the key and the offer of its version: the opening's, or those that its writer
-- has seen. The offer of a new entry is no slot's number.
pub record NamesStand {X : Type 0} (k : Setting X) (s : State X) : Type 0 where
  pub old : (a : ℕ) (side : Side) → a < k.anchors → side ≢ Start → stage_of (epoch_of (word s a)) ≤ 4 → 0 < length (chain_of s a).slots
      → version_of (epoch_of (word s a)) ≤ opening_counter k → side_word k s side a ≡ word_in k k.words (Beside side a)  -- an entry of the opening has its names still
  pub new : (a : ℕ) (side : Side) → a < k.anchors → side ≢ Start → stage_of (epoch_of (word s a)) ≤ 4 → 0 < length (chain_of s a).slots
      → opening_counter k < version_of (epoch_of (word s a)) → IsNamed s a (version_of (epoch_of (word s a))) side (side_word k s side a)  -- a new one's were seen
  pub offers : (a : ℕ) → a < k.anchors → 0 < length (chain_of s a).slots → opening_counter k < version_of (epoch_of (word s a)) → k.slots ≤ side_word k s Offer a  -- and its offer is no slot

pub record CellsSound {X : Type 0} (k : Setting X) (s : State X) : Type 0 where
  pub holders : OneHolder k s
  pub turns : (i : ℕ) (v : View X) → get_elem? s.views i ≡ some v → (t : ℕ) (tab : Tab X) → get_elem? v.tabs t ≡ some tab → TurnFits k s tab
  pub contents : ContentsStand k s
  pub writers : (i : ℕ) (v : View X) → get_elem? s.views i ≡ some v → (t : ℕ) (tab : Tab X) → get_elem? v.tabs t ≡ some tab → TabPiece k s tab
  pub names : NamesStand k s
