-- What a crash may leave of all slots at once, where each slot that is written has what its tab means to write now.
use Rattle.std.specs.Prelude.{◌<◌, ◌≡◌, ◌⊎◌, ℕ, List, Some, length}
use Rattle.rebuild_model.specs.Image.{image_at}
use Rattle.core_model.specs.declared.tab.Cell.{Cell}
use Rattle.core_model.specs.declared.tab.Hold.{Hold}
use Rattle.core_model.specs.declared.tab.Tab.{Tab}
use Rattle.core_model.specs.declared.tab.Turn.TheVariants.{Has}
use Rattle.core_model.specs.CellMoves.{chosen_content}
use Rattle.core_model.specs.Cells.{IsCell}
use Rattle.core_model.specs.Holders.{IsTab}
use Rattle.core_model.specs.Layout.{Setting}
use Rattle.core_model.specs.State.{State}
use Rattle.core_model.specs.Tabs.{turn_of}
use Rattle.core_log.specs.Within.{IsPossible}

-- A tab holds the turn at the slot, and the bytes are what it writes there: the piece that it chose, or of a tab that frees the
-- blank content.
pub record IsWrittenNow {X : Type 0} (k : Setting X) (b : X → List ℕ) (s : State X) (slot : ℕ) (bytes : List ℕ) : Type 0 where
  pub i : ℕ
  pub t : ℕ
  pub tab : Tab X
  pub is_tab : IsTab s i t tab
  pub hold : Hold X
  pub turn : turn_of tab ≡ Has hold
  pub slot_is : hold.slot ≡ slot
  pub content : X
  pub writes : chosen_content k tab ≡ Some content
  pub bytes_are : bytes ≡ b content

-- each slot has a content that a crash may leave of its cell, or what a tab is writing into it now: any number of slots at once
pub record IsLeftNow {X : Type 0} (k : Setting X) (b : X → List ℕ) (s : State X) (images : List (List ℕ)) : Type 0 where
  pub many : length images ≡ k.slots
  pub each : (slot : ℕ) (c : Cell X) → slot < k.slots → IsCell s slot c
      → IsPossible b c (image_at images slot) ⊎ IsWrittenNow k b s slot (image_at images slot)
