-- What a change makes of a state.
use Rattle.std.specs.Prelude.{ℕ, ◌≡◌, ◌≢◌, ◌<◌, List, ◌++◌, length, slice_set, slice_index_or, Option, Some, None}
use Rattle.std.specs.Option.{option_to_list}
use mathlib.Core.Option.{some}
use lib.ListN.{get_elem?}
use Rattle.lock_word.specs.declared.stage.Stage.TheVariants.{Appending}
use Rattle.core_model.specs.declared.adding.Addition.{Addition}
use Rattle.core_model.specs.declared.chain.Chain.{Chain}
use Rattle.core_model.specs.declared.tab.Cell.{Cell}
use Rattle.core_model.specs.declared.tab.Tab.{Tab}
use Rattle.core_model.specs.declared.view.Kind.{Kind}
use Rattle.core_model.specs.declared.view.Place.{Place}
use Rattle.core_model.specs.declared.view.Place.TheVariants.{Anchor, Counter}
use Rattle.core_model.specs.declared.view.Sight.{Sight}
use Rattle.core_model.specs.declared.view.Sight.TheVariants.{Stood}
use Rattle.core_model.specs.declared.view.View.{View}
use Rattle.core_model.specs.Chains.{no_chain, without}
use Rattle.core_model.specs.State.{State}
use Rattle.core_model.specs.Tabs.{tab_at, OfWriter, with_tab}
use Rattle.core_model.specs.Additions.{added}
use Rattle.core_model.specs.AnchorMoves.{raised_tab}
use Rattle.core_table.specs.declared.content.Content.{Content}
use Rattle.core_change.specs.declared.change.TabsChange.{TabsChange}
use Rattle.core_change.specs.declared.change.TabsChange.TheVariants as tabs
use Rattle.core_change.specs.declared.change.ChainChange.{ChainChange}
use Rattle.core_change.specs.declared.change.ChainChange.TheVariants as chains
use Rattle.core_change.specs.declared.change.Change.{Change}
use Rattle.core_change.specs.declared.change.WordChange.{WordChange}
use Rattle.core_change.specs.declared.turn_change.TurnChange.{TurnChange}
use Rattle.core_change.specs.Notes.{notes_changed}
use Rattle.core_change.specs.Tabs.{changed_tab}
use Rattle.core_change.specs.Turns.{turned, places_changed, FitsTurn}

-- what a step on an anchor's word adds, that tells and leaves these numbers and sees this epoch
abbrev pub anchor_addition : Kind → ℕ → ℕ → ℕ → ℕ → Addition
anchor_addition kind anchor told left seen = record {
  item = record { kind = kind; at = anchor; found = told };
  trace = Some record { place = Anchor anchor; word = left };
  sight = Some (Stood anchor seen);
  names = None;
  learned = None;
  deed = None;
  met = None;
  drawn = None;
}

-- what one on the counter of versions adds
abbrev pub counter_addition : Kind → ℕ → ℕ → Addition
counter_addition kind found left = record {
  item = record { kind = kind; at = 0; found = found };
  trace = Some record { place = Counter; word = left };
  sight = None;
  names = None;
  learned = None;
  deed = None;
  met = None;
  drawn = None;
}

-- what one on another word adds, at this anchor, slot or word beside an anchor
abbrev pub word_addition : Kind → Place → (at told left : ℕ) → Option Sight → Addition
word_addition kind place at told left sight = record {
  item = record { kind = kind; at = at; found = told };
  trace = Some record { place = place; word = left };
  sight = sight;
  names = None;
  learned = None;
  deed = None;
  met = None;
  drawn = None;
}

-- what one on no word adds, at this slot or note
abbrev pub bare_addition : Kind → (at told : ℕ) → Addition
bare_addition kind at told = record {
  item = record { kind = kind; at = at; found = told };
  trace = None;
  sight = None;
  names = None;
  learned = None;
  deed = None;
  met = None;
  drawn = None;
}

-- a list of words
abbrev pub words_changed : List ℕ → Option WordChange → List ℕ
words_changed words None = words
words_changed words (Some w) = slice_set words w.index w.left

-- a view, where its tabs have changed so in their turns
abbrev pub turned_view : View Content → List (Option (Cell Content)) → TurnChange → View Content
turned_view v places turn = record v { tabs = turned v.tabs places turn }

abbrev pub tabs_changed : View Content → TabsChange → List (Tab Content)
tabs_changed v tabs.Same = v.tabs
tabs_changed v (tabs.Put t tab) = with_tab v t tab
tabs_changed v (tabs.PutTwo t tab u other) = slice_set (with_tab v t tab) u other
tabs_changed v (tabs.Appends t) = with_tab v t (raised_tab (tab_at v t) Appending 0)
tabs_changed v (tabs.Becomes t change) = with_tab v t (changed_tab (tab_at v t) change)
tabs_changed v (tabs.BothBecome t change u other) = slice_set (with_tab v t (changed_tab (tab_at v t) change)) u (changed_tab (tab_at v u) other)

abbrev pub without_used : Option ℕ → List ℕ → List ℕ
without_used None held = held
without_used (Some version) held = without version held

abbrev pub view_changed : View Content → List (Option (Cell Content)) → Addition → Option ℕ → TurnChange → TabsChange → View Content
view_changed v places a used turn change = record (added v a) {
  tabs = tabs_changed (turned_view v places turn) change;
  held = without_used used (option_to_list a.drawn ++ v.held);
}

abbrev pub chains_changed : List Chain → ChainChange → List Chain
chains_changed cs chains.Same = cs
chains_changed cs (chains.Put a c) = slice_set cs a c
chains_changed cs (chains.Ended a tail) = slice_set cs a record (slice_index_or cs a no_chain) { tail = tail }

-- the state where the pass i, whose view is v, made this change
abbrev pub changed : State Content → ℕ → View Content → Change → State Content
changed s i v c = record {
  words = words_changed s.words c.word;
  places = places_changed v.tabs s.places c.turn;
  views = notes_changed (slice_set s.views i (view_changed v s.places c.addition c.used c.turn c.tabs)) c.notes;
  chains = chains_changed s.chains c.chain;
}

-- What is changed is there.

abbrev pub FitsTabs : View Content → TabsChange → Type 0
FitsTabs v tabs.Same = Unit {0}
FitsTabs v (tabs.Put t tab) = t < length v.tabs
FitsTabs v (tabs.PutTwo t tab u other) = (t < length v.tabs) × (u < length v.tabs)
FitsTabs v (tabs.Appends t) = (t < length v.tabs) × OfWriter (λ w. Unit {0}) (tab_at v t)
FitsTabs v (tabs.Becomes t change) = t < length v.tabs
FitsTabs v (tabs.BothBecome t change u other) = (t < length v.tabs) × (u < length v.tabs) × (t ≢ u)

abbrev pub FitsChain : ℕ → ChainChange → Type 0
FitsChain many chains.Same = Unit {0}
FitsChain many (chains.Put a c) = a < many
FitsChain many (chains.Ended a tail) = a < many

abbrev pub FitsWord : ℕ → Option WordChange → Type 0
FitsWord many None = Unit {0}
FitsWord many (Some w) = w.index < many

pub record Fits (s : State Content) (i : ℕ) (c : Change) : Type 0 where
  pub view : View Content
  pub at : get_elem? s.views i ≡ some view
  pub word : FitsWord (length s.words) c.word
  pub turn : FitsTurn (length view.tabs) (length s.places) c.turn
  pub tabs : FitsTabs (turned_view view s.places c.turn) c.tabs
  pub chain : FitsChain (length s.chains) c.chain
