-- What was offered, and what was logged of it.
use Rattle.std.specs.Prelude.{◌+◌, ◌<◌, ◌≡◌, ◌≢◌, ◌≤◌, ◌↔◌, ℕ, Contains, List}
use Rattle.link_word.specs.declared.link.Link.TheVariants.{Last, Next, NotWritten}
use Rattle.core_model.specs.declared.tab.Piece.{Piece}
use Rattle.core_model.specs.declared.view.LoggedPiece.{LoggedPiece}
use Rattle.core_model.specs.Offers.{Offering}
use Rattle.core_model.specs.Layout.{Setting}
use Rattle.core_model.specs.State.{State}
use Rattle.core_log.specs.Logged.{LogStands}

-- a logged piece is one of its offer, which is for its anchor and key, and the last exactly where it is the offer's last
pub record KeepsToOffer (o : Offering) (l : LoggedPiece) : Type 0 where
  pub fits : o.Fits l.piece.offer l.anchor l.key0 l.key1
  pub inside : l.piece.place < o.pieces l.piece.offer
  pub last : (l.piece.next ≡ Last) ↔ (l.piece.place + 1 ≡ o.pieces l.piece.offer)

-- each logged piece is
pub record LogKeepsTo (o : Offering) (log : List LoggedPiece) : Type 0 where
  pub each : (l : LoggedPiece) → Contains log l → KeepsToOffer o l

-- An offer is no slot's number, the link of a piece is written, and the slots that a piece names are those of the table.
pub record IsWithin {X : Type 0} (k : Setting X) (p : Piece) : Type 0 where
  pub offer : k.slots ≤ p.offer
  pub linked : p.next ≢ NotWritten
  pub first : p.first < k.slots
  pub next : (slot : ℕ) → p.next ≡ Next slot → slot < k.slots

-- There is a log of the state: what passes and notes have seen as logged, in order, each piece of its offer.
pub record HasLog {X : Type 0} (o : Offering) (k : Setting X) (s : State X) : Type 0 where
  pub log : List LoggedPiece
  pub stands : LogStands k s log
  pub keeps : LogKeepsTo o log
  pub within : (l : LoggedPiece) → Contains log l → IsWithin k l.piece
