-- What a change makes of the turn of a tab, and of the cell that goes with it.
use Rattle.std.specs.Prelude.{ℕ, ◌<◌, List, Option, None, slice_set, slice_index_or}
use Rattle.core_model.specs.declared.tab.Cell.{Cell}
use Rattle.core_model.specs.declared.tab.Tab.{Tab}
use Rattle.core_model.specs.declared.tab.Tab.TheVariants.{Free, Freeing, Reading, Writing}
use Rattle.core_model.specs.declared.tab.Turn.{Turn}
use Rattle.core_model.specs.declared.tab.Turn.TheVariants.{NoTurn}
use Rattle.core_model.specs.Tabs.{turn_of}
use Rattle.core_model.specs.CellMoves.{cell_held, turn_with}
use Rattle.core_table.specs.declared.content.Content.{Content}
use Rattle.core_change.specs.declared.turn_change.TurnChange.{TurnChange}
use Rattle.core_change.specs.declared.turn_change.TurnChange.TheVariants.{Same, Taken, Ended}

-- a tab that reads, writes or frees, with this turn
abbrev pub with_turn : Tab Content → Turn Content → Tab Content
with_turn (Reading r) turn = Reading record r { turn = turn }
with_turn (Writing w) turn = Writing record w { turn = turn }
with_turn (Freeing f) turn = Freeing record f { turn = turn }
with_turn tab turn = tab

abbrev pub turned : List (Tab Content) → List (Option (Cell Content)) → TurnChange → List (Tab Content)
turned tabs places Same = tabs
turned tabs places (Taken t slot) = slice_set tabs t (with_turn (slice_index_or tabs t Free) (turn_with slot (slice_index_or places slot None)))
turned tabs places (Ended t slot) = slice_set tabs t (with_turn (slice_index_or tabs t Free) NoTurn)

abbrev pub places_changed : List (Tab Content) → List (Option (Cell Content)) → TurnChange → List (Option (Cell Content))
places_changed tabs places Same = places
places_changed tabs places (Taken t slot) = slice_set places slot None
places_changed tabs places (Ended t slot) = slice_set places slot (cell_held (turn_of (slice_index_or tabs t Free)))

-- the tab and the slot are there
abbrev pub FitsTurn : ℕ → ℕ → TurnChange → Type 0
FitsTurn tabs places Same = Unit {0}
FitsTurn tabs places (Taken t slot) = (t < tabs) × (slot < places)
FitsTurn tabs places (Ended t slot) = (t < tabs) × (slot < places)
