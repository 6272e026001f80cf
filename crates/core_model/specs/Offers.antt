-- What was offered, and what stood at the opening. Each entry is the opening's, or one of its offer, and a tab that chose a piece keeps
-- to its offer.
use Rattle.std.specs.Prelude.{◌+◌, ◌<◌, ◌↔◌, ◌≡◌, ◌≤◌, ◌⊎◌, List, None, Some, drop, length, ℕ}
use mathlib.Core.Option.{some}
use lib.ListN.{get_elem?}
use Rattle.lock_word.specs.Words.{epoch_of, version_limit, version_of}
use Rattle.link_word.specs.declared.link.Link.TheVariants.{Last}
use Rattle.core_model.specs.declared.moves.Move.{Move}
use Rattle.core_model.specs.declared.moves.Move.TheVariants.{LogPiece}
use Rattle.core_model.specs.declared.moves.Side.TheVariants.{Key0, Key1, Offer}
use Rattle.core_model.specs.declared.tab.Hold.{Hold}
use Rattle.core_model.specs.declared.tab.Piece.{Piece}
use Rattle.core_model.specs.declared.tab.Reader.{Reader}
use Rattle.core_model.specs.declared.tab.Tab.{Tab}
use Rattle.core_model.specs.declared.tab.Writer.{Writer}
use Rattle.core_model.specs.declared.view.View.{View}
use Rattle.core_model.specs.Layout.{Setting}
use Rattle.core_model.specs.Chains.{first_of, link_to}
use Rattle.core_model.specs.State.{State, chain_of, side_word, word}
use Rattle.core_model.specs.Tabs.{tab_at}
use Rattle.core_model.specs.CellMoves.{piece_of}
use Rattle.core_model.specs.Anchors.{opening_counter}
use Rattle.core_model.specs.Holders.{IsTab}

pub record Offering : Type 1 where
  -- the slots, in order, of the entry that an anchor had at the opening
  pub chain : ℕ → List ℕ
  -- how many pieces an offer is
  pub pieces : ℕ → ℕ
  -- an offer is one for this anchor, with these halves of its key
  pub Fits : (offer anchor key0 key1 : ℕ) → Type 0

-- the published slots at an anchor are those of the opening, with the link behind the last of them, and its offer is the first one
pub record IsOldEntry {X : Type 0} (o : Offering) (k : Setting X) (s : State X) (a : ℕ) : Type 0 where
  pub slots : (chain_of s a).slots ≡ o.chain a
  pub end : (chain_of s a).end ≡ Last
  pub offer : side_word k s Offer a ≡ first_of (o.chain a)
  pub inside : side_word k s Offer a < k.slots

-- they are pieces of the offer that stands beside it, which is for this anchor and key, and the last of them is the last where all are published
pub record IsNewEntry {X : Type 0} (o : Offering) (k : Setting X) (s : State X) (a : ℕ) : Type 0 where
  pub fits : o.Fits (side_word k s Offer a) a (side_word k s Key0 a) (side_word k s Key1 a)
  pub inside : length (chain_of s a).slots ≤ o.pieces (side_word k s Offer a)
  pub last : ((chain_of s a).end ≡ Last) ↔ (length (chain_of s a).slots ≡ o.pieces (side_word k s Offer a))
  pub drawn : version_of (epoch_of (word s a)) ≤ version_limit

-- A tab that chose this piece keeps to its offer: the offer has pieces, and is for the tab's anchor and the key that it stored, and the
-- piece is the last exactly where it is the last one of the offer's.
pub record KeepsTo {X : Type 0} (o : Offering) (w : Writer X) (p : Piece) : Type 0 where
  pub key0 : ℕ
  pub key1 : ℕ
  pub key0_is : w.key0 ≡ Some key0
  pub key1_is : w.key1 ≡ Some key1
  pub fits : o.Fits p.offer w.anchor key0 key1
  pub some : 0 < o.pieces p.offer
  pub last : (p.next ≡ Last) ↔ (p.place + 1 ≡ o.pieces p.offer)

-- what holds between any two steps
pub record OffersStand {X : Type 0} (o : Offering) (k : Setting X) (s : State X) : Type 0 where
  pub old : (a : ℕ) → a < k.anchors → 0 < length (chain_of s a).slots → version_of (epoch_of (word s a)) ≤ opening_counter k → IsOldEntry o k s a
  pub new : (a : ℕ) → a < k.anchors → 0 < length (chain_of s a).slots → opening_counter k < version_of (epoch_of (word s a)) → IsNewEntry o k s a
  pub chosen : (i t : ℕ) (w : Writer X) (p : Piece) → IsTab s i t (Tab.Writing w) → w.chosen ≡ Some p → KeepsTo o w p

-- a step that logs a piece keeps to the offer
abbrev pub ChoosesRight : {X : Type 0} → Offering → View X → Move → Type 0
ChoosesRight {X} o v (LogPiece t slot durable) = (w : Writer X) → tab_at v t ≡ Tab.Writing w → w.chosen ≡ None → KeepsTo o w (piece_of w)
ChoosesRight o v m = Unit {0}

-- What a writing tab published that stored this offer is of the offer's pieces, and the last of them is the last where that are all.
pub record WritesOffer {X : Type 0} (o : Offering) (offer : ℕ) (w : Writer X) : Type 0 where
  pub key0 : ℕ
  pub key1 : ℕ
  pub key0_is : w.key0 ≡ Some key0
  pub key1_is : w.key1 ≡ Some key1
  pub fits : o.Fits offer w.anchor key0 key1
  pub inside : length w.published ≤ o.pieces offer
  pub last : (w.end ≡ Last) ↔ (length w.published ≡ o.pieces offer)

-- What a reading tab has that holds the turn at its place: of an old entry the slot of that place of the opening's chain, with the
-- content that it had then, and its link there;
pub record ReadsOld {X : Type 0} (o : Offering) (k : Setting X) (offer : ℕ) (r : Reader X) (h : Hold X) : Type 0 where
  pub offer_is : offer ≡ first_of (o.chain r.anchor)
  pub place : get_elem? (o.chain r.anchor) r.place ≡ some h.slot
  pub next : r.found ≡ link_to (drop (r.place + 1) (o.chain r.anchor)) Last
  pub content : get_elem? k.contents h.slot ≡ some h.cell.now

-- and of a new one the piece for that place of the offer beside its anchor
pub record ReadsNew {X : Type 0} (o : Offering) (k : Setting X) (s : State X) (offer : ℕ) (r : Reader X) (h : Hold X) : Type 0 where
  pub fits : o.Fits offer r.anchor (side_word k s Key0 r.anchor) (side_word k s Key1 r.anchor)
  pub inside : r.place < o.pieces offer
  pub last : (r.found ≡ Last) ↔ (r.place + 1 ≡ o.pieces offer)
  pub content : h.cell.now ≡ k.image record { offer = offer; version = r.version; place = r.place; first = first_of (chain_of s r.anchor).slots; next = r.found }

-- an offer below the number of slots is an entry of the opening
abbrev pub ReadsOffer : {X : Type 0} → Offering → Setting X → State X → ℕ → Reader X → Hold X → Type 0
ReadsOffer o k s offer r h =
    ((offer < k.slots) × (r.version ≤ opening_counter k) × ReadsOld o k offer r h)
    ⊎ ((k.slots ≤ offer) × (opening_counter k < r.version) × ReadsNew o k s offer r h)
