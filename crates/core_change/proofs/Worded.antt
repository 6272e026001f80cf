-- Changes of steps on words beside anchors, on slots and on the counter of logged pieces.
use Rattle.std.proofs.Common.{◌≡◌, ℕ, [], ◌++◌, set, Option, None, Some, sym, ap, ◌∙◌}
use Rattle.std.specs.Option.{option_to_list}
use Rattle.core_model.specs.declared.adding.Addition.{Addition}
use Rattle.core_model.specs.declared.moves.Move.{Move}
use Rattle.core_model.specs.declared.view.Kind.{Kind}
use Rattle.core_model.specs.declared.view.Place.{Place}
use Rattle.core_model.specs.declared.view.Sight.{Sight}
use Rattle.core_model.specs.declared.view.View.{View}
use Rattle.core_model.specs.Layout.{index}
use Rattle.std.proofs.lemmas.List.{append-nil}
use Rattle.core_model.specs.Steps.{finding, traces_of, view_after, words_after, places_after, views_after, chains_after}
use Rattle.core_model.specs.Additions.{names_seen, sights_learned}
use Rattle.core_model.specs.Table.{held_after, sights_of, item_of, deeds_of, met_of, tabs_after, place, left_by}
use Rattle.core_change.specs.declared.change.ChainChange.TheVariants as chains
use Rattle.core_change.specs.declared.change.NotesChange.TheVariants as notes
use Rattle.core_change.specs.declared.change.TabsChange.{TabsChange}
use Rattle.core_table.specs.declared.content.Content.{Content}
use Rattle.core_table.specs.declared.opening.Opening.{Opening}
use Rattle.core_change.specs.declared.table.Table.{Table}
use Rattle.core_change.specs.declared.turn_change.TurnChange.TheVariants as turns
use Rattle.core_table.specs.Inside.{setting}
use Rattle.core_change.specs.Inside.{state}
use Rattle.core_change.specs.Changed.{word_addition, tabs_changed}
use Rattle.core_change.specs.Planned.{Matches, found}

module _ (o : Opening) (t : Table) (v : View Content) (m : Move) (p : Place) (at told left : ℕ) (kind : Kind) (sight : Option Sight) where
  -- The step is on this word, tells and leaves these numbers, and sees this; it is no deed, meets nobody, uses no version, and
  -- leaves the chains. For a given move most of it computes.
  pub record IsOn : Type 0 where
    pub on : place v m ≡ Some p
    pub leaves : left_by v m (found o t v m) ≡ left
    pub item : item_of v m (found o t v m) ≡ record { kind = kind; at = at; found = told }
    pub sees : sights_of v m (finding (setting o) (state t) v m) ≡ option_to_list sight
    pub places : t.places.items ≡ places_after t.places.items v m (found o t v m)
    pub views : (i : ℕ) → set t.views.items i (view_after v m (finding (setting o) (state t) v m)) ≡ views_after (setting o) t.views.items i v m (finding (setting o) (state t) v m)
    pub held : v.held ≡ held_after v m (found o t v m)
    pub deeds : [] ≡ deeds_of v m (found o t v m)
    pub met : [] ≡ met_of v m (finding (setting o) (state t) v m)
    pub chains : t.chains.items ≡ chains_after t.chains.items v m (found o t v m)

  pub worded : (answer word : ℕ) (tabs : TabsChange) (base : Addition) → base ≡ word_addition kind p at told left sight → word ≡ index (setting o) p → IsOn → tabs_changed v tabs ≡ tabs_after v m (finding (setting o) (state t) v m)
      → Matches o t v m record { answer = answer; word = Some record { index = word; left = left }; turn = turns.Same; tabs = tabs; chain = chains.Same; used = None; addition = base; notes = notes.Same }
  worded answer word tabs base is at_word step tabs_are = record {
    words = ap (λ i. set t.words.items i left) at_word ∙ sym (λ j. words_after (setting o) t.words.items (step.on j) (step.leaves j));
    places = step.places;
    views = step.views;
    tabs = tabs_are;
    held = ap (λ (b : Addition). option_to_list b.drawn ++ v.held) is ∙ step.held;
    seen = ap (λ (b : Addition). option_to_list b.sight ++ (names_seen b.names ++ sights_learned b.learned)) is ∙ (append-nil (option_to_list sight) ∙ sym step.sees);
    trail = ap (λ (b : Addition). b.item) is ∙ sym step.item;
    mirror = ap (λ (b : Addition). option_to_list b.trace) is ∙ sym (λ j. traces_of (step.on j) (step.leaves j));
    deeds = ap (λ (b : Addition). option_to_list b.deed) is ∙ step.deeds;
    met = ap (λ (b : Addition). option_to_list b.met) is ∙ step.met;
    chains = step.chains;
  }
