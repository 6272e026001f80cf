-- What a crash may leave of the slots of a core.
use Rattle.std.specs.Prelude.{◌≡◌, ◌<◌, ℕ, Contains, List, length, slice_index}
use mathlib.Core.Option.{some}
use lib.ListN.{get_elem?}
use Rattle.core_model.specs.declared.tab.Cell.{Cell}
use Rattle.core_model.specs.declared.tab.Hold.{Hold}
use Rattle.core_model.specs.declared.tab.Piece.{Piece}
use Rattle.core_model.specs.declared.tab.Tab.{Tab}
use Rattle.core_model.specs.declared.tab.Turn.{Turn}
use Rattle.core_model.specs.declared.tab.Turn.TheVariants.{Has}
use Rattle.core_model.specs.declared.view.LoggedPiece.{LoggedPiece}
use Rattle.core_model.specs.declared.view.Sight.{Sight}
use Rattle.core_model.specs.declared.view.Sight.TheVariants as sight
use Rattle.core_model.specs.declared.view.View.{View}
use Rattle.core_model.specs.Cells.{IsCell}
use Rattle.core_model.specs.Tabs.{turn_of}
use Rattle.core_table.specs.declared.content.Content.{Content}
use Rattle.core_table.specs.declared.content.Content.TheVariants as content
use Rattle.core_table.specs.Machine.{Machine, state_of}
use Rattle.named_rebuild.specs.declared.contents.FirstContent.{FirstContent}
use Rattle.named_rebuild.specs.declared.contents.FirstContent.TheVariants.{Blank, Logged}
use Rattle.named_rebuild.specs.Contents.{content_at}

-- the turn is that at this slot, and has this cell
pub record HoldsCell (turn : Turn Content) (slot : ℕ) (c : Cell Content) : Type 0 where
  pub hold : Hold Content
  pub has : turn ≡ Has hold
  pub slot_is : hold.slot ≡ slot
  pub cell_is : hold.cell ≡ c

-- one of these tabs holds such a turn, and a tab of one of these views
pub record IsHeldBy (tabs : List (Tab Content)) (slot : ℕ) (c : Cell Content) : Type 0 where
  pub tab : Tab Content
  pub among : Contains tabs tab
  pub holds : HoldsCell (turn_of tab) slot c

pub record IsHeldIn (views : List (View Content)) (slot : ℕ) (c : Cell Content) : Type 0 where
  pub view : View Content
  pub among : Contains views view
  pub held : IsHeldBy view.tabs slot c

-- the sight tells that this piece was logged for this slot
pub record IsLoggedAs (x : Sight) (slot : ℕ) (p : Piece) (l : LoggedPiece) : Type 0 where
  pub is : x ≡ sight.Logged l
  pub slot_is : l.slot ≡ slot
  pub piece_is : l.piece ≡ p

-- some pass or note knows it
pub record IsLoggedFor (views : List (View Content)) (slot : ℕ) (p : Piece) (l : LoggedPiece) : Type 0 where
  pub view : View Content
  pub among : Contains views view
  pub seen : Contains view.seen (sight.Logged l)
  pub slot_is : l.slot ≡ slot
  pub piece_is : l.piece ≡ p

-- the content of this number, of those that a crash may leave in the slot's cell
pub record IsPickedAs (m : Machine) (slot number : ℕ) (x : Content) : Type 0 where
  pub cell : Cell Content
  pub is_cell : IsCell (state_of m) slot cell
  pub at : get_elem? cell.possible number ≡ some x

-- there is one of this number
pub record IsPick (m : Machine) (slot number : ℕ) : Type 0 where
  pub cell : Cell Content
  pub is_cell : IsCell (state_of m) slot cell
  pub within : number < length cell.possible

-- What a content of a slot is, told by names: what the slot held when the core was opened, or the piece that was logged for it.
abbrev pub ShowsAs : Machine → List FirstContent → ℕ → Content → FirstContent → Type 0
ShowsAs m first slot (content.Opened _) x = x ≡ content_at first slot
ShowsAs m first slot (content.Offered p) x = (l : LoggedPiece) × IsLoggedFor m.views slot p l × (x ≡ Logged l)
ShowsAs m first slot content.Blank x = x ≡ Blank

-- this is left of the slot where the content of this number is picked
pub record IsLeft (m : Machine) (first : List FirstContent) (slot number : ℕ) (x : FirstContent) : Type 0 where
  pub content : Content
  pub picked : IsPickedAs m slot number content
  pub shown : ShowsAs m first slot content x

-- and these are left of all slots
pub record ArePicked (m : Machine) (first : List FirstContent) (picks : List ℕ) (left : List FirstContent) : Type 0 where
  pub many : length left ≡ m.slots
  pub each : (slot : ℕ) → slot < m.slots → IsLeft m first slot (slice_index picks slot) (content_at left slot)
