-- What a crash within a write may leave of one slot, where contents have bytes.
use mathlib.Core.Option.{some}
use lib.ListN.{get_elem?}
use Rattle.std.specs.Prelude.{◌<◌, ◌≡◌, ℕ, Contains, List}
use Rattle.core_model.specs.declared.tab.Cell.{Cell}
use Rattle.core_model.specs.declared.tab.Freer.{Freer}
use Rattle.core_model.specs.declared.tab.Piece.{Piece}
use Rattle.core_model.specs.declared.tab.Tab.TheVariants.{Freeing, Writing}
use Rattle.core_model.specs.declared.tab.Writer.{Writer}
use Rattle.core_model.specs.declared.view.LoggedPiece.{LoggedPiece}
use Rattle.core_model.specs.declared.view.View.{View}
use Rattle.core_model.specs.Chains.{times}
use Rattle.core_model.specs.Layout.{Setting}
use Rattle.core_model.specs.State.{State}
use Rattle.core_log.specs.Logged.{HasLogged}

-- a crash may leave these bytes of the cell
abbrev pub IsPossible : {X : Type 0} → (X → List ℕ) → Cell X → List ℕ → Type 0
IsPossible {X} b c bytes = (x : X) × Contains c.possible x × (bytes ≡ b x)

-- the bytes are those of a piece that was logged for the slot, which a tab reserves and may be writing now
pub record IsWriting {X : Type 0} (k : Setting X) (b : X → List ℕ) (s : State X) (log : List LoggedPiece) (slot : ℕ) (bytes : List ℕ) : Type 0 where
  pub piece : Piece
  pub logged : HasLogged log slot piece
  pub bytes_are : bytes ≡ b (k.image piece)
  pub i : ℕ
  pub view : View X
  pub at : get_elem? s.views i ≡ some view
  pub t : ℕ
  pub writer : Writer X
  pub writes : get_elem? view.tabs t ≡ some (Writing writer)
  pub reserved : 0 < times slot writer.reserved

-- the bytes are the blank content's, and the slot is in the chain that a tab gives back, which may be wiping it now
pub record IsWiping {X : Type 0} (k : Setting X) (b : X → List ℕ) (s : State X) (slot : ℕ) (bytes : List ℕ) : Type 0 where
  pub bytes_are : bytes ≡ b k.blank
  pub i : ℕ
  pub view : View X
  pub at : get_elem? s.views i ≡ some view
  pub t : ℕ
  pub freer : Freer X
  pub frees : get_elem? view.tabs t ≡ some (Freeing freer)
  pub rests : 0 < times slot freer.rest
