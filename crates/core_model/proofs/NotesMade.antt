-- A note is made, at any place and with any item of its kind, and one is learned: the state stays sound.
use Rattle.std.proofs.Common.{◌≡◌, ◌≢◌, ℕ, [], ◌∷◌, ◌++◌, length, set, sym, ap, ◌∙◌, subst, arith, Contains}
use Rattle.std.proofs.lemmas.List.Elements.{Contains-append_left}
use mathlib.Core.Option.{some, some-injective}
use lib.ListN.{get_elem?}
use Rattle.core_model.specs.declared.view.Item.{Item}
use Rattle.core_model.specs.declared.view.Sight.{Sight}
use Rattle.core_model.specs.declared.view.View.{View}
use Rattle.core_model.specs.Layout.{Setting}
use Rattle.core_model.specs.State.{State}
use Rattle.core_model.specs.Sound.{Sound}
use Rattle.core_model.proofs.Lists.{at_length, set_here, set_else, contains_none}
use Rattle.core_model.proofs.NotesFrame.{IsSeen, SightsKnown, known_view, known_none, known_both}
use Rattle.core_model.proofs.NotesCells.{renews_sound}
use Rattle.core_model.proofs.NotesRenewed.{Quiet, learns_goes, pass_renews, note_renews, new_note_renews}
use Rattle.core_model.specs.Tabs.{IsPass}
use Rattle.core_model.specs.CellMoves.{note_of, spent}
use Rattle.core_model.specs.TableForms.{renewed, learns, noted_behind, noted_at, learned_from, IsNoteAt, IsSpentAt}

module _ {X : Type 0} (k : Setting X) (s : State X) (i : ℕ) (v : View X) (so : Sound k s) (at : get_elem? s.views i ≡ some v) (pass : IsPass v) (item : Item) (quiet : Quiet item.kind) where
  -- a view without tabs is not that of the pass
  elsewhere : (n : ℕ) (u : View X) → IsNoteAt s n u → n ≢ i
  elsewhere n u note e = let same : v ≡ u = some-injective v u (sym at ∙ subst (λ (z : ℕ). get_elem? s.views z ≡ some u) e note.at) in
      absurd (let l = pass in let z = ap length (ap View.tabs same ∙ note.no_tabs) in omega arith)

  -- Making a note.

  abbrev noting : View X
  noting = learns v [] item

  abbrev noting_state : State X
  noting_state = renewed s (set s.views i noting)

  noting_sound : Sound k noting_state
  noting_sound = renews_sound k s (set s.views i noting) (pass_renews k s so i v noting at pass (learns_goes v [] item quiet) (known_view k s so.anchors.seen i v at)) so

  noting_known : SightsKnown k noting_state v.seen
  noting_known = known_view k noting_state noting_sound.anchors.seen i noting (set_here s.views i noting (at_length s.views i v at))

  pub noted_behind_sound : Sound k (noted_behind s i v item)
  noted_behind_sound = renews_sound k noting_state (noting_state.views ++ note_of v ∷ []) (new_note_renews k noting_state noting_sound v noting_known) noting_sound

  pub noted_at_sound : (n : ℕ) (u : View X) → IsSpentAt s n u → Sound k (noted_at s i v item n)
  noted_at_sound n u free = renews_sound k noting_state (set noting_state.views n (note_of v))
      (note_renews k noting_state noting_sound n u v
      (set_else s.views i n noting (elsewhere n u free.note) ∙ free.note.at)
      (so.anchors.shaped.notes n u free.note.at free.note.no_tabs)
      (λ x h. absurd (contains_none x (subst (λ z. Contains z x) free.unseen h)))
      noting_known)
      noting_sound

  -- Learning one.

  module _ (n : ℕ) (u : View X) (note : IsNoteAt s n u) where
    abbrev learning : View X
    learning = learns v u.seen item

    abbrev learning_state : State X
    learning_state = renewed s (set s.views i learning)

    learning_sound : Sound k learning_state
    learning_sound = renews_sound k s (set s.views i learning) (pass_renews k s so i v learning at pass (learns_goes v u.seen item quiet)
        (known_both k s u.seen v.seen (known_view k s so.anchors.seen n u note.at) (known_view k s so.anchors.seen i v at))) so

    still_known : (x : Sight) → Contains u.seen x → IsSeen (set learning_state.views n spent) x
    still_known x h = record {
      i = i;
      view = learning;
      at = set_else learning_state.views n i spent (λ e. elsewhere n u note (sym e)) ∙ set_here s.views i learning (at_length s.views i v at);
      seen = Contains-append_left u.seen v.seen x h;
    }

    pub learned_from_sound : Sound k (learned_from s i v item n u)
    learned_from_sound = renews_sound k learning_state (set learning_state.views n spent)
        (note_renews k learning_state learning_sound n u spent (set_else s.views i n learning (elsewhere n u note) ∙ note.at)
        (so.anchors.shaped.notes n u note.at note.no_tabs) still_known (known_none k learning_state))
        learning_sound
