-- What a step makes of the entry at an anchor: it stays, it goes, or one slot more of it is published. And what it makes of the piece
-- that a writing tab has chosen: it was chosen before, or this step logged it.
use Rattle.std.specs.Prelude.{◌<◌, ◌≡◌, ◌≢◌, ◌⊎◌, Bool, None, Some, [], false, length, ℕ}
use Rattle.lock_word.specs.Words.{epoch_of, version_of}
use Rattle.link_word.specs.declared.link.Link.TheVariants.{Next}
use Rattle.core_model.specs.declared.moves.Move.{Move}
use Rattle.core_model.specs.declared.moves.Move.TheVariants.{LogPiece}
use Rattle.core_model.specs.declared.moves.Side.{Side}
use Rattle.core_model.specs.declared.moves.Side.TheVariants.{Offer, Start}
use Rattle.core_model.specs.declared.tab.Piece.{Piece}
use Rattle.core_model.specs.declared.tab.Tab.{Tab}
use Rattle.core_model.specs.declared.tab.Writer.{Writer}
use Rattle.core_model.specs.Layout.{Setting}
use Rattle.core_model.specs.State.{State, chain_of, side_word, word}
use Rattle.core_model.specs.CellMoves.{piece_of}
use Rattle.core_model.specs.Steps.{longer}
use Rattle.core_model.specs.Anchors.{opening_counter}
use Rattle.core_model.specs.Holders.{IsTab}

-- the version at the anchor, and the key and the offer beside it
pub record NamesStay {X : Type 0} (k : Setting X) (s t : State X) (a : ℕ) : Type 0 where
  pub version : version_of (epoch_of (word t a)) ≡ version_of (epoch_of (word s a))
  pub names : (side : Side) → side ≢ Start → side_word k t side a ≡ side_word k s side a

-- it has the same published slots and the same last link
pub record EntryStays {X : Type 0} (k : Setting X) (s t : State X) (a : ℕ) : Type 0 where
  pub named : NamesStay k s t a
  pub slots : (chain_of t a).slots ≡ (chain_of s a).slots
  pub end : (chain_of t a).end ≡ (chain_of s a).end

-- nothing is published there afterwards
abbrev pub EntryGone : {X : Type 0} → State X → ℕ → Type 0
EntryGone t a = (chain_of t a).slots ≡ []

-- A tab of the pass i that writes there published the piece that it chose, in the slot that the last link named. The piece is the
-- tab's own, and the next one of the offer that stands beside the anchor, with the version there, which is new.
pub record EntryGrows {X : Type 0} (k : Setting X) (s t : State X) (i a : ℕ) : Type 0 where
  pub named : NamesStay k s t a  -- version and names stay
  pub tab : ℕ  -- the number of the tab
  pub writer : Writer X  -- what it was
  pub writes : IsTab s i tab (Tab.Writing writer)
  pub anchor_is : writer.anchor ≡ a  -- it writes there
  pub piece : Piece
  pub goes_on : writer.is_ending ≡ false  -- it gave no slot back
  pub chosen : writer.chosen ≡ Some piece
  pub piece_is : piece ≡ piece_of writer  -- for its first reserved slot
  pub place_is : piece.place ≡ length (chain_of s a).slots  -- behind what is published
  pub offer_is : piece.offer ≡ side_word k s Offer a  -- of the offer beside the anchor
  pub version_is : piece.version ≡ version_of (epoch_of (word s a))  -- of the version there
  pub version_new : opening_counter k < version_of (epoch_of (word s a))  -- which is no version of the opening
  pub slot : ℕ  -- the slot
  pub linked : (chain_of s a).slots ≢ [] → (chain_of s a).end ≡ Next slot  -- which the last link named
  pub chain : chain_of t a ≡ longer (chain_of s a) slot piece.next  -- and is the last now

abbrev pub EntryAfter : {X : Type 0} → Setting X → State X → State X → ℕ → ℕ → Type 0
EntryAfter k s t i a = EntryStays k s t a ⊎ EntryGone t a ⊎ EntryGrows k s t i a

-- it writes at the same anchor, and stored the same key and offer
pub record IsSameWriter {X : Type 0} (w x : Writer X) : Type 0 where
  pub anchor : x.anchor ≡ w.anchor
  pub key0 : x.key0 ≡ w.key0
  pub key1 : x.key1 ≡ w.key1
  pub offer : x.offer ≡ w.offer

-- a tab that writes so chose this piece before
pub record IsStillChosen {X : Type 0} (old : Tab X) (x : Writer X) (p : Piece) : Type 0 where
  pub writer : Writer X
  pub is : old ≡ Tab.Writing writer
  pub chosen : writer.chosen ≡ Some p
  pub same : IsSameWriter writer x

-- the tab t had chosen none, and logs a piece
pub record IsNowChosen {X : Type 0} (m : Move) (t : ℕ) (old : Tab X) (x : Writer X) (p : Piece) : Type 0 where
  pub writer : Writer X
  pub is : old ≡ Tab.Writing writer
  pub none : writer.chosen ≡ None
  pub slot : ℕ
  pub is_durable : Bool
  pub logs : m ≡ LogPiece t slot is_durable
  pub piece : p ≡ piece_of writer
  pub same : IsSameWriter writer x

-- the tab t of the pass j, where the pass i makes the step m from the state s
pub record ChoiceAfter {X : Type 0} (s : State X) (i : ℕ) (m : Move) (j t : ℕ) (x : Writer X) (p : Piece) : Type 0 where
  pub old : Tab X
  pub was : IsTab s j t old
  pub so : IsStillChosen old x p ⊎ ((j ≡ i) × IsNowChosen m t old x p)
