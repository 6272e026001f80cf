-- What a crash may leave of all slots at once.
use mathlib.Core.Option.{some}
use lib.ListN.{get_elem?}
use Rattle.lock_word.specs.Words.{epoch_of, version_of}
use Rattle.link_word.specs.declared.link.Link.TheVariants.{Last}
use Rattle.entry_cut.specs.Standing.{entry_of}
use Rattle.rebuild_model.specs.Rebuilt.{IsWinner}
use Rattle.core_model.specs.declared.view.LoggedPiece.{LoggedPiece}
use Rattle.core_model.specs.declared.moves.Side.TheVariants.{Offer}
use Rattle.core_model.specs.Chains.{first_of, link_at}
use Rattle.std.specs.Prelude.{◌≡◌, ◌≤◌, ◌<◌, ◌⊎◌, ℕ, Contains, List, get_or, length}
use Rattle.rebuild_model.specs.Image.{IsSaneAt, header_at, image_at}
use Rattle.rebuild_model.specs.Entry.{Entry}
use Rattle.core_model.specs.declared.tab.Cell.{Cell}
use Rattle.core_model.specs.declared.tab.Piece.{Piece}
use Rattle.core_model.specs.Layout.{Setting}
use Rattle.core_model.specs.State.{State, chain_of, side_word, word}
use Rattle.core_model.specs.Anchors.{opening_counter}
use Rattle.core_model.specs.Cells.{IsCell}
use Rattle.core_log.specs.Logged.{IsDurable}
use Rattle.core_log.specs.Within.{IsPossible, IsWiping, IsWriting}
use Rattle.crash_entries.specs.Parts.{KeepsTo, Offers, Part, bytes_of, cut_of}

-- a piece in a slot, for an anchor, as a part of a file
abbrev pub part_of : (slot anchor : ℕ) → Piece → Part
part_of slot anchor p = record { slot = slot; anchor = anchor; offer = p.offer; version = p.version; place = p.place; first = p.first; next = p.next }

-- a logged piece, as a part of a file
abbrev pub logged_part : LoggedPiece → Part
logged_part l = part_of l.slot l.anchor l.piece

-- The setting is over a file of such slots, where each content has bytes: pieces are their images, a slot with the blank content is not sane, and
-- no sane slot of the file has a greater version than the counter.
pub record IsFileOf {X : Type 0} (slot : ℕ) (o : Offers) (k : Setting X) (b : X → List ℕ) (file : List (List ℕ)) : Type 0 where
  pub many : length file ≡ k.slots
  pub content : (j : ℕ) (x : X) → get_elem? k.contents j ≡ some x → image_at file j ≡ b x
  pub image : (j a : ℕ) (p : Piece) → b (k.image p) ≡ bytes_of slot o (part_of j a p)
  pub blank : (images : List (List ℕ)) (j : ℕ) → image_at images j ≡ b k.blank → ¬ IsSaneAt slot images j
  pub greatest : (j : ℕ) → IsSaneAt slot file j → (header_at file j).version ≤ opening_counter k

-- each logged piece keeps to its offer, whose number is of no slot of the opening
abbrev pub LogKeeps : {X : Type 0} → (slot : ℕ) → Offers → Setting X → List LoggedPiece → Type 0
LogKeeps slot o k log = (l : LoggedPiece) → Contains log l → KeepsTo slot k.anchors k.slots o (logged_part l) × (k.slots ≤ l.piece.offer)

-- each slot has a content that a crash may leave of its cell, or a piece that is being written, or it is being wiped: any number of slots at once
pub record IsLeftWhile {X : Type 0} (k : Setting X) (b : X → List ℕ) (s : State X) (log : List LoggedPiece) (images : List (List ℕ)) : Type 0 where
  pub many : length images ≡ k.slots
  pub each : (slot : ℕ) (c : Cell X) → slot < k.slots → IsCell s slot c → IsPossible b c (image_at images slot) ⊎ IsWriting k b s log slot (image_at images slot) ⊎ IsWiping k b s slot (image_at images slot)

-- an entry is a whole response of an offer, whose number is of no slot
pub record IsWholeOffer (o : Offers) (slots : ℕ) (e : Entry) : Type 0 where
  pub offer : ℕ
  pub new : slots ≤ offer
  pub url : e.url ≡ o.url offer
  pub body : e.body ≡ o.body offer

-- the piece that is published at a place of an anchor's chain, and the part of a file that it is there
abbrev pub piece_at : {X : Type 0} → Setting X → State X → ℕ → ℕ → Piece
piece_at k s a place = record {
  offer = side_word k s Offer a;
  version = version_of (epoch_of (word s a));
  place = place;
  first = first_of (chain_of s a).slots;
  next = link_at (chain_of s a) place;
}

abbrev pub part_at : {X : Type 0} → Setting X → State X → ℕ → ℕ → Part
part_at k s a place = part_of (get_or (chain_of s a).slots place 0) a (piece_at k s a place)

-- A new entry stands at the anchor: its chain ends, each of its pieces was logged as durable, and they are pieces of its offer.
pub record StandsNew {X : Type 0} (slot : ℕ) (o : Offers) (k : Setting X) (s : State X) (log : List LoggedPiece) (a : ℕ) : Type 0 where
  pub some_slot : 0 < length (chain_of s a).slots
  pub closed : (chain_of s a).end ≡ Last
  pub offer : k.slots ≤ side_word k s Offer a
  pub new : opening_counter k < version_of (epoch_of (word s a))
  pub durable : (place : ℕ) → place < length (chain_of s a).slots → IsDurable s log a place
  pub keeps : (place : ℕ) → place < length (chain_of s a).slots → KeepsTo slot k.anchors k.slots o (part_at k s a place)

-- its entry, as a rebuild knows it
abbrev pub entry_at : {X : Type 0} → (slot : ℕ) → Offers → Setting X → State X → ℕ → Entry
entry_at slot o k s a = entry_of (cut_of slot o (part_at k s a 0)) (chain_of s a).slots

-- The winner of the opening at the anchor stands there.
pub record StandsOld {X : Type 0} (slot : ℕ) (file : List (List ℕ)) (k : Setting X) (s : State X) (a : ℕ) (e : Entry) : Type 0 where
  pub won : IsWinner slot file k.anchors a e
  pub offer : side_word k s Offer a < k.slots
  pub version_is : e.version ≡ version_of (epoch_of (word s a))
  pub chain_is : e.chain ≡ (chain_of s a).slots
