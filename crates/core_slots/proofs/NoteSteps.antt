-- Steps on notes, as they are worked out.
use Rattle.std.proofs.Common.{◌≡◌, ◌+◌, ◌<◌, ◌≤◌, ℕ, List, [], ◌∷◌, ◌++◌, Some, None, Bool, true, false, length, length-set, cond, nat_lt, drop, set, sym, refl, arith, ap, ◌∙◌, add_comm, subst}
use Rattle.std.specs.List.{position, position_or_len}
use Rattle.std.specs.Option.{unwrap_or}
use Rattle.std.specs.Prelude.{slice_get}
use Rattle.std.proofs.lemmas.Bool.{lt-ltb}
use Rattle.std.proofs.lemmas.List.Recursion.{is_position_or_len}
use Rattle.std.proofs.lemmas.Option.{slice_get_within}
use mathlib.Core.Option.{some}
use lib.ListN.{get_elem?}
use Rattle.core_model.specs.declared.adding.Addition.{Addition}
use Rattle.core_model.specs.declared.moves.Move.TheVariants as move
use Rattle.core_model.specs.declared.view.Kind.TheVariants as kind
use Rattle.core_model.specs.declared.view.Sight.{Sight}
use Rattle.core_model.specs.declared.view.View.{View}
use Rattle.core_model.specs.CellMoves.{IsNote, is_spent, free_note, seen_in, put, spent}
use Rattle.core_change.specs.declared.change.ChainChange.TheVariants as chains
use Rattle.core_change.specs.declared.change.Change.{Change}
use Rattle.core_change.specs.declared.change.NotesChange.TheVariants as notes
use Rattle.core_change.specs.declared.change.TabsChange.TheVariants as tabs
use Rattle.core_table.specs.declared.content.Content.{Content}
use Rattle.core_table.specs.declared.opening.Opening.{Opening}
use Rattle.core_change.specs.declared.table.Table.{Table}
use Rattle.core_change.specs.declared.turn_change.TurnChange.TheVariants as turns
use Rattle.core_change.specs.Changed.{bare_addition}
use Rattle.core_model.specs.Views.{note_with}
use Rattle.core_change.specs.Planned.{Plans}
use Rattle.core_table.proofs.Lists.{at_length, at_slice}

-- The first free note is the first spent one, or the one behind all.

pub few_notes : (notes : List (View Content)) → free_note notes ≤ length notes
few_notes [] = omega arith
few_notes (v ∷ vs) = let h = few_notes vs in by (is_spent v) h
  where
    by : (b : Bool) → free_note vs ≤ length vs → cond b 0 (free_note vs + 1) ≤ length (v ∷ vs)
    by true h = omega arith
    by false h = omega arith

place_is : (notes : List (View Content)) → free_note notes ≡ position_or_len is_spent notes
place_is notes = is_position_or_len free_note is_spent refl (λ v vs. ap (cond (is_spent v) 0) (add_comm (free_note vs) 1)) notes

unwrapped : (p n : ℕ) → p ≤ n → unwrap_or (cond (nat_lt p n) (Some p) None) n ≡ p
unwrapped p n le = grind arith

pub first_free : (notes : List (View Content)) → unwrap_or (position is_spent notes) (length notes) ≡ free_note notes
first_free notes =
    ap (λ p. unwrap_or (cond (nat_lt p (length notes)) (Some p) None) (length notes)) (sym (place_is notes)) ∙ unwrapped (free_note notes) (length notes) (few_notes notes)

-- a view that is there is replaced
put_there : (views : List (View Content)) (i p : ℕ) (v w : View Content) → p < length views → put (set views i v) p w ≡ set (set views i v) p w
put_there views i p v w lt = let same = length-set views i v in ap (λ b. cond b (set (set views i v) p w) (set views i v ++ w ∷ [])) (lt-ltb p (length (set views i v)) (omega arith))

module _ (o : Opening) (t : Table) (v : View Content) where
  -- the change of a step that notes what the pass has seen, and answers n
  abbrev noted_change : ℕ → Addition → View Content → Change
  noted_change n base note = record {
    answer = n;
    word = None;
    turn = turns.Same;
    tabs = tabs.Same;
    chain = chains.Same;
    used = None;
    addition = base;
    notes = notes.Put (o.passes + n) note;
  }

  abbrev free : ℕ
  free = free_note (drop o.passes t.views.items)

  noted : Plans o t v move.Note (noted_change free (bare_addition kind.Noted 0 free) (note_with v.seen))
  noted = record {
    allowed = tt;
    answers = refl;
    matches = record {
      words = refl;
      places = refl;
      views = λ i. refl;
      tabs = refl;
      held = refl;
      seen = refl;
      trail = refl;
      mirror = refl;
      deeds = refl;
      met = refl;
      chains = refl;
    };
    word = tt;
    turn = tt;
    tabs = tt;
    chain = tt;
  }

  pub note_planned : (n : ℕ) (seen : List Sight) (base : Addition) (note : View Content) → n ≡ free → seen ≡ v.seen → base ≡ bare_addition kind.Noted 0 n → note ≡ note_with seen
      → Plans o t v move.Note (noted_change n base note)
  note_planned n seen base note n_is seen_is base_is note_is =
      subst (λ (c : Change). Plans o t v move.Note c)
      (sym (λ j. noted_change (n_is j) ((base_is ∙ ap (bare_addition kind.Noted 0) n_is) j) ((note_is ∙ ap note_with seen_is) j))) noted

  module _ (note : ℕ) (u : View Content) (there : slice_get t.views.items (o.passes + note) ≡ Some u) (is_note : IsNote u) where
    -- the change of a step that learns this note
    abbrev learned_change : Addition → List Sight → View Content → Change
    learned_change base seen gone = record {
      answer = 0;
      word = None;
      turn = turns.Same;
      tabs = tabs.Same;
      chain = chains.Same;
      used = None;
      addition = record { item = base.item; trace = base.trace; sight = base.sight; names = base.names; learned = Some seen; deed = base.deed; met = base.met; drawn = base.drawn };
      notes = notes.Put (o.passes + note) gone;
    }

    at : o.passes + note < length t.views.items
    at = slice_get_within t.views.items (o.passes + note) u there

    learned : Plans o t v (move.Learn note) (learned_change (bare_addition kind.Learned note 0) u.seen spent)
    learned = record {
      allowed = (u, at_slice t.views.items (o.passes + note) u there, is_note);
      answers = refl;
      matches = record {
        words = refl;
        places = refl;
        views = λ i. put_there t.views.items i (o.passes + note) _ spent at;
        tabs = refl;
        held = refl;
        seen = sym (ap seen_in there);
        trail = refl;
        mirror = refl;
        deeds = refl;
        met = refl;
        chains = refl;
      };
      word = tt;
      turn = tt;
      tabs = tt;
      chain = tt;
    }

    pub learn_planned : (base : Addition) (seen empty : List Sight) (gone : View Content) → seen ≡ u.seen → empty ≡ [] → base ≡ bare_addition kind.Learned note 0 → gone ≡ note_with empty
        → Plans o t v (move.Learn note) (learned_change base seen gone)
    learn_planned base seen empty gone seen_is empty_is base_is gone_is =
        subst (λ (c : Change). Plans o t v (move.Learn note) c)
        (sym (λ j. learned_change (base_is j) (seen_is j) ((gone_is ∙ ap note_with empty_is) j))) learned

  -- there is no view of this number
  pub not_there : (note : ℕ) → length t.views.items ≤ o.passes + note → (u : View Content) → get_elem? t.views.items (o.passes + note) ≡ some u → ⊥
  not_there note none u at = absurd (let lt = at_length t.views.items (o.passes + note) u at in omega arith)
