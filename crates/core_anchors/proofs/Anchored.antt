-- Changes of steps on an anchor's word.
use Rattle.std.proofs.Common.{◌≡◌, ℕ, [], ◌∷◌, ◌++◌, set, Option, Some, sym, ap, ◌∙◌}
use Rattle.std.specs.Option.{option_to_list}
use Rattle.core_model.specs.declared.adding.Addition.{Addition}
use Rattle.core_model.specs.declared.moves.Move.{Move}
use Rattle.core_model.specs.declared.view.Deed.{Deed}
use Rattle.core_model.specs.declared.view.Kind.{Kind}
use Rattle.core_model.specs.declared.view.Place.TheVariants.{Anchor}
use Rattle.core_model.specs.declared.view.Sight.TheVariants.{Stood}
use Rattle.core_model.specs.declared.view.View.{View}
use Rattle.core_model.specs.Layout.{anchor_index}
use Rattle.core_model.specs.Steps.{finding, traces_of, view_after, words_after, places_after, views_after, chains_after}
use Rattle.core_model.specs.Additions.{names_seen, sights_learned}
use Rattle.core_model.specs.Table.{held_after, sights_of, item_of, deeds_of, met_of, tabs_after, place, left_by}
use Rattle.core_change.specs.declared.change.ChainChange.{ChainChange}
use Rattle.core_change.specs.declared.change.NotesChange.TheVariants as notes
use Rattle.core_change.specs.declared.change.TabsChange.{TabsChange}
use Rattle.core_table.specs.declared.content.Content.{Content}
use Rattle.core_table.specs.declared.opening.Opening.{Opening}
use Rattle.core_change.specs.declared.table.Table.{Table}
use Rattle.core_change.specs.declared.turn_change.TurnChange.TheVariants as turns
use Rattle.core_table.specs.Inside.{setting}
use Rattle.core_change.specs.Inside.{state}
use Rattle.core_change.specs.Changed.{anchor_addition, tabs_changed, without_used, chains_changed}
use Rattle.core_change.specs.Planned.{Matches, found}

module _ (o : Opening) (t : Table) (v : View Content) (m : Move) (a told left seen : ℕ) (kind : Kind) where
  -- the step is on the word of the anchor a, tells and leaves these numbers, and sees this epoch
  pub record IsAt : Type 0 where
    pub at : place v m ≡ Some (Anchor a)
    pub leaves : left_by v m (found o t v m) ≡ left
    pub item : item_of v m (found o t v m) ≡ record { kind = kind; at = a; found = told }
    pub sees : sights_of v m (finding (setting o) (state t) v m) ≡ Stood a seen ∷ []
    pub places : t.places.items ≡ places_after t.places.items v m (found o t v m)
    pub views : (i : ℕ) → set t.views.items i (view_after v m (finding (setting o) (state t) v m)) ≡ views_after (setting o) t.views.items i v m (finding (setting o) (state t) v m)

  pub anchored : (tabs : TabsChange) (chain : ChainChange) (used : Option ℕ) (deed : Option Deed) (met : Option ℕ) (base : Addition) (index : ℕ) → base ≡ anchor_addition kind a told left seen → index ≡ anchor_index a → IsAt
      → tabs_changed v tabs ≡ tabs_after v m (finding (setting o) (state t) v m)
      → without_used used v.held ≡ held_after v m (found o t v m)
      → option_to_list deed ≡ deeds_of v m (found o t v m)
      → option_to_list met ≡ met_of v m (finding (setting o) (state t) v m)
      → chains_changed t.chains.items chain ≡ chains_after t.chains.items v m (found o t v m)
      → Matches o t v m record {
        answer = told;
        word = Some record { index = index; left = left };
        turn = turns.Same;
        tabs = tabs;
        chain = chain;
        used = used;
        addition = record { item = base.item; trace = base.trace; sight = base.sight; names = base.names; learned = base.learned; deed = deed; met = met; drawn = base.drawn };
        notes = notes.Same;
      }
  anchored tabs chain used deed met base index is here step tabs_are held deeds mets chains = record {
    words = ap (λ i. set t.words.items i left) here ∙ sym (λ j. words_after (setting o) t.words.items (step.at j) (step.leaves j));
    places = step.places;
    views = step.views;
    tabs = tabs_are;
    held = ap (λ (b : Addition). without_used used (option_to_list b.drawn ++ v.held)) is ∙ held;
    seen = ap (λ (b : Addition). option_to_list b.sight ++ (names_seen b.names ++ sights_learned b.learned)) is ∙ sym step.sees;
    trail = ap (λ (b : Addition). b.item) is ∙ sym step.item;
    mirror = ap (λ (b : Addition). option_to_list b.trace) is ∙ sym (λ j. traces_of (step.at j) (step.leaves j));
    deeds = deeds;
    met = mets;
    chains = chains;
  }
