-- What a step on the cell of a tab changes.
use Rattle.std.specs.Prelude.{ℕ, Bool, false, None, Option, Some}
use Rattle.core_model.specs.declared.moves.Outcome.{Outcome}
use Rattle.core_model.specs.declared.tab.Tab.{Tab}
use Rattle.core_model.specs.declared.tab.Tab.TheVariants.{Freeing, Writing}
use Rattle.core_model.specs.declared.tab.Turn.{Turn}
use Rattle.core_model.specs.declared.view.Kind.{Kind}
use Rattle.core_model.specs.Tabs.{turn_of}
use Rattle.core_model.specs.CellMoves.{map_some, cell_held, wrote, synced, is_kept, rewritten, settled_by_write, settled_by_sync}
use Rattle.core_change.specs.declared.change.ChainChange.TheVariants as chains
use Rattle.core_change.specs.declared.change.Change.{Change}
use Rattle.core_change.specs.declared.change.NotesChange.TheVariants as notes
use Rattle.core_change.specs.declared.change.TabsChange.TheVariants as tabs
use Rattle.core_table.specs.declared.content.Content.{Content}
use Rattle.core_table.specs.declared.content.Content.TheVariants.{Blank, Offered}
use Rattle.core_change.specs.declared.tab_change.TabChange.{TabChange}
use Rattle.core_change.specs.declared.turn_change.TurnChange.TheVariants as turns
use Rattle.core_change.specs.Changed.{bare_addition}

-- of the tab t this, and no word
abbrev pub cell_change : Kind → ℕ → ℕ → TabChange → Change
cell_change kind t slot change = record {
  answer = 0;
  word = None;
  turn = turns.Same;
  tabs = tabs.Becomes t change;
  chain = chains.Same;
  used = None;
  addition = bare_addition kind slot 0;
  notes = notes.Same;
}

-- what a tab writes
abbrev pub content_of : Tab Content → Option Content
content_of (Writing w) = map_some Offered w.chosen
content_of (Freeing f) = Some Blank
content_of tab = None

-- the turn of a tab after a write of its content
abbrev pub written_turn : Tab Content → Outcome → Turn Content
written_turn tab outcome = rewritten (turn_of tab) (is_kept outcome) (settled_by_write tab outcome) (wrote (cell_held (turn_of tab)) outcome (content_of tab))

-- and after a sync
abbrev pub synced_turn : Tab Content → Bool → Turn Content
synced_turn tab is_synced = rewritten (turn_of tab) false (settled_by_sync tab is_synced) (synced (cell_held (turn_of tab)) is_synced)
