-- Steps that are worked out.
use Rattle.std.specs.Prelude.{ℕ, ◌≡◌, ◌++◌, length, slice_set}
use Rattle.std.specs.Option.{option_to_list}
use mathlib.Core.Option.{some}
use lib.ListN.{get_elem?}
use Rattle.core_model.specs.declared.moves.Move.{Move}
use Rattle.core_model.specs.declared.view.View.{View}
use Rattle.core_model.specs.Steps.{number_found, finding, traces_of, view_after, words_after, places_after, views_after, chains_after}
use Rattle.core_model.specs.Slots.{SlotsSound}
use Rattle.core_model.specs.Sound.{AnchorsSound}
use Rattle.core_model.specs.Additions.{names_seen, sights_learned}
use Rattle.core_model.specs.Tabs.{IsPass}
use Rattle.core_model.specs.Table.{Allowed, held_after, sights_of, item_of, deeds_of, met_of, tabs_after, place, left_by, answer}
use Rattle.core_table.specs.declared.content.Content.{Content}
use Rattle.core_change.specs.declared.change.Change.{Change}
use Rattle.core_table.specs.declared.opening.Opening.{Opening}
use Rattle.core_change.specs.declared.table.Table.{Table}
use Rattle.core_table.specs.Inside.{setting}
use Rattle.core_change.specs.Inside.{state}
use Rattle.core_change.specs.Changed.{words_changed, turned_view, tabs_changed, without_used, chains_changed, FitsWord, FitsTabs, FitsChain}
use Rattle.core_change.specs.Notes.{notes_changed}
use Rattle.core_change.specs.Turns.{places_changed, FitsTurn}

-- the number that the step finds
abbrev pub found : Opening → Table → View Content → Move → ℕ
found o t v m = number_found (setting o) (state t) v m

-- a pass of a sound core has this view
pub record IsScene (o : Opening) (t : Table) (v : View Content) : Type 0 where
  pub sound : AnchorsSound (setting o) (state t)
  pub slots : SlotsSound (setting o) (state t)
  pub pass : IsPass v
  pub number : ℕ
  pub at : get_elem? t.views.items number ≡ some v

-- the change does to each part of the state what the step does
pub record Matches (o : Opening) (t : Table) (v : View Content) (m : Move) (c : Change) : Type 0 where
  pub words : words_changed t.words.items c.word ≡ words_after (setting o) t.words.items (place v m) (left_by v m (found o t v m))
  pub places : places_changed v.tabs t.places.items c.turn ≡ places_after t.places.items v m (found o t v m)
  pub views : (i : ℕ) → notes_changed (slice_set t.views.items i (view_after v m (finding (setting o) (state t) v m))) c.notes ≡ views_after (setting o) t.views.items i v m (finding (setting o) (state t) v m)
  pub tabs : tabs_changed (turned_view v t.places.items c.turn) c.tabs ≡ tabs_after v m (finding (setting o) (state t) v m)
  pub held : without_used c.used (option_to_list c.addition.drawn ++ v.held) ≡ held_after v m (found o t v m)
  pub seen : option_to_list c.addition.sight ++ (names_seen c.addition.names ++ sights_learned c.addition.learned) ≡ sights_of v m (finding (setting o) (state t) v m)
  pub trail : c.addition.item ≡ item_of v m (found o t v m)
  pub mirror : option_to_list c.addition.trace ≡ traces_of (place v m) (left_by v m (found o t v m))
  pub deeds : option_to_list c.addition.deed ≡ deeds_of v m (found o t v m)
  pub met : option_to_list c.addition.met ≡ met_of v m (finding (setting o) (state t) v m)
  pub chains : chains_changed t.chains.items c.chain ≡ chains_after t.chains.items v m (found o t v m)

-- the step is allowed, this is what it answers, and this change is what it does, to what is there
pub record Plans (o : Opening) (t : Table) (v : View Content) (m : Move) (c : Change) : Type 0 where
  pub allowed : Allowed (setting o) (state t) v m
  pub answers : c.answer ≡ answer v m (found o t v m)
  pub matches : Matches o t v m c
  pub word : FitsWord (length t.words.items) c.word
  pub turn : FitsTurn (length v.tabs) (length t.places.items) c.turn
  pub tabs : FitsTabs (turned_view v t.places.items c.turn) c.tabs
  pub chain : FitsChain (length t.chains.items) c.chain
