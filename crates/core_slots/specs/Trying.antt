-- Which tab may try to take a turn, and what becomes of a tab that tries, or ends its turn.
use Rattle.std.specs.Prelude.{◌≡◌, ◌⊎◌, ℕ, ◌+◌, ◌==◌, false, cond, None, Option, Some}
use Rattle.core_model.specs.declared.view.Sight.{Sight}
use Rattle.core_model.specs.declared.tab.Tab.{Tab}
use Rattle.core_model.specs.declared.tab.Tab.TheVariants.{Reading, Writing, Freeing}
use Rattle.core_model.specs.declared.moves.Then.{Then}
use Rattle.core_model.specs.State.{State}
use Rattle.core_model.specs.Tabs.{holds_turn, OfReader, OfWriter, OfFreer}
use Rattle.core_model.specs.CellMoves.{MayRead, MayWrite, next_slot, was_written, was_settled, MayWipe}
use Rattle.core_change.specs.declared.change.TabsChange.{TabsChange}
use Rattle.core_change.specs.declared.change.TabsChange.TheVariants as tabs
use Rattle.core_table.specs.declared.content.Content.{Content}
use Rattle.core_change.specs.declared.tab_change.TabChange.TheVariants.{GoesOn, Leaves}
use Rattle.core_change.specs.declared.turn_change.TurnChange.{TurnChange}
use Rattle.core_change.specs.declared.turn_change.TurnChange.TheVariants as turns

abbrev pub MayTry : State Content → ℕ → Tab Content → Type 0
MayTry s slot tab = (holds_turn tab ≡ false) × (OfReader (MayRead s slot) tab ⊎ OfWriter (MayWrite slot) tab ⊎ OfFreer (MayWipe slot) tab)

-- the tab t has the turn where the turn word was 0
abbrev pub tried_turn : ℕ → ℕ → ℕ → TurnChange
tried_turn t slot n = cond (n == 0) (turns.Taken t slot) turns.Same

-- what becomes of the tab t beside its turn
abbrev pub tried_tabs : ℕ → Tab Content → ℕ → TabsChange
tried_tabs t (Writing w) n = tabs.Becomes t (Leaves (cond (n == 0) false w.is_written) (cond (n == 0) false w.is_settled))
tried_tabs t tab n = tabs.Same

-- and what becomes of it beside its turn where it ends that
abbrev pub ended_tabs : ℕ → Tab Content → Then → TabsChange
ended_tabs t (Reading r) Then.GoesOn = tabs.Becomes t (GoesOn (r.place + 1) (next_slot r.found))
ended_tabs t (Reading r) _ = tabs.Same
ended_tabs t (Writing w) then = tabs.Becomes t (Leaves (was_written w.turn) (was_settled w.turn))
ended_tabs t tab then = tabs.Same

-- what its pass sees then
abbrev pub ended_sight : Tab Content → ℕ → Then → Option Sight
ended_sight (Freeing f) slot Then.Wiped = Some (Sight.Wiped f.anchor f.version slot)
ended_sight tab slot then = None
