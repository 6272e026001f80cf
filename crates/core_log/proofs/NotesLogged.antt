-- Notes come and go, and passes come to have seen what others had: the log stands.
use Rattle.std.proofs.Common.{◌≡◌, ◌≢◌, inl, inr, ⊎_elim, ℕ, List, [], ◌∷◌, ◌++◌, set, sym, ap, ◌∙◌, subst, arith, length, Contains}
use Rattle.std.proofs.lemmas.List.Elements.{Contains-append_left}
use mathlib.Core.Option.{some, some-injective, some-ne-none}
use lib.ListN.{get_elem?}
use Rattle.core_model.specs.declared.tab.Cell.{Cell}
use Rattle.core_model.specs.declared.tab.Tab.{Tab}
use Rattle.core_model.specs.declared.view.Item.{Item}
use Rattle.core_model.specs.declared.view.LoggedPiece.{LoggedPiece}
use Rattle.core_model.specs.declared.view.Sight.{Sight}
use Rattle.core_model.specs.declared.view.Sight.TheVariants.{Logged}
use Rattle.core_model.specs.declared.view.View.{View}
use Rattle.core_model.specs.Layout.{Setting}
use Rattle.core_model.specs.State.{State}
use Rattle.core_model.specs.Cells.{IsCell}
use Rattle.core_model.specs.CellMoves.{note_of, spent}
use Rattle.core_model.specs.Holders.{IsTab}
use Rattle.core_model.specs.Sound.{Sound}
use Rattle.core_model.specs.Tabs.{IsPass}
use Rattle.core_model.specs.TableForms.{IsNoteAt, IsSpentAt, learned_from, learns, noted_at, noted_behind, renewed}
use Rattle.core_model.specs.Versions.{IsSighted}
use Rattle.core_model.proofs.Lists.{at_length, contains_none, set_else, set_here}
use Rattle.core_model.proofs.NotesCells.{renews_sound}
use Rattle.core_model.proofs.NotesFrame.{Before, IsSeen as Knows, Renews, SightsKnown, known_both, known_none, known_view, still_seen, was_seen}
use Rattle.core_model.proofs.NotesRenewed.{Quiet, learns_goes, new_note_renews, note_renews, pass_renews}
use Rattle.core_log.specs.Logged.{IsFast, LogStands}
use Rattle.core_log.specs.Seen.{IsSeen}

module _ {X : Type 0} (k : Setting X) (s : State X) (log : List LoggedPiece) (views : List (View X)) (r : Renews k s views) (st : LogStands k s log) where
  abbrev s' : State X
  s' = renewed s views

  -- a tab was there
  tab_was : (j t : ℕ) (x : Tab X) → IsTab s' j t x → IsTab s j t x
  tab_was j t x is = ⊎_elim
      (λ (b : Before s.views j is.view). record { view = b.0; at = b.1; there = subst (λ (z : List (Tab X)). get_elem? z t ≡ some x) b.2.tabs is.there })
      (λ (e : is.view ≡ note_of is.view). absurd (some-ne-none x (sym (subst (λ (z : View X). get_elem? z.tabs t ≡ some x) e is.there))))
      (r.now j is.view is.at)

  -- and a cell
  cell_was : (slot : ℕ) (c : Cell X) → IsCell s' slot c → IsCell s slot c
  cell_was slot c (inl e) = inl e
  cell_was slot c (inr h) = let q = tab_was h.i h.t h.tab record { view = h.view; at = h.at; there = h.there } in
      inr record { i = h.i; view = q.view; at = q.at; t = h.t; tab = h.tab; there = q.there; hold = h.hold; turn = h.turn; slot_is = h.slot_is; cell_is = h.cell_is }

  -- what was seen is
  seen_now : (x : Sight) → IsSeen s.views x → IsSeen views x
  seen_now x h = let q = still_seen k s views r x record { i = h.i; view = h.view; at = h.at; seen = h.seen } in record { i = q.i; view = q.view; at = q.at; seen = q.seen }

  seen_then : (x : Sight) → IsSeen views x → IsSeen s.views x
  seen_then x h = let q = was_seen k s views r h.i h.view h.at x h.seen in record { i = q.i; view = q.view; at = q.at; seen = q.seen }

  sighted : (a version : ℕ) → IsSighted s a version → IsSighted s' a version
  sighted a version h = let q = seen_now h.sight record { i = h.i; view = h.view; at = h.at; seen = h.seen } in
      record { i = q.i; view = q.view; at = q.at; sight = h.sight; seen = q.seen; anchor = h.anchor; version_is = h.version_is }

  fast_was : (a place : ℕ) → IsFast k s' log a place → IsFast k s log a place
  fast_was a place (inl low) = inl low
  fast_was a place (inr d) = inr record { link = d.link; among = d.among; durable = d.durable; anchor_is = d.anchor_is; version_is = d.version_is; place_is = d.place_is }

  pub renews_logged : LogStands k s' log
  renews_logged = record {
    of = record { seen = λ l c. seen_now (Logged l) (st.of.seen l c); all = λ l h. st.of.all l (seen_then (Logged l) h) };
    cells = record {
      possible = λ slot c x is q. st.cells.possible slot c x (cell_was slot c is) q;
      chosen = λ i t w p is. st.cells.chosen i t w p (tab_was i t _ is);
      turn = λ i t w h is. st.cells.turn i t w h (tab_was i t _ is);
    };
    links = record {
      new = st.links.new;
      stood = λ l c. sighted l.anchor l.piece.version (st.links.stood l c);
      begins = st.links.begins;
      agree = st.links.agree;
      writers = λ i t w is. st.links.writers i t w (tab_was i t _ is);
    };
    numbers = record { few = st.numbers.few; inside = st.numbers.inside; below = st.numbers.below; once = st.numbers.once; each = st.numbers.each };
    settled = λ a place slot c x lt there is q fast. st.settled a place slot c x lt there (cell_was slot c is) q (fast_was a place fast);
  }

module _ {X : Type 0} (k : Setting X) (s : State X) (log : List LoggedPiece) (st : LogStands k s log) (i : ℕ) (v : View X) (so : Sound k s) (at : get_elem? s.views i ≡ some v) (pass : IsPass v) (item : Item) (quiet : Quiet item.kind) where
  -- a view without tabs is not that of the pass
  elsewhere : (n : ℕ) (u : View X) → IsNoteAt s n u → n ≢ i
  elsewhere n u note e = let same : v ≡ u = some-injective v u (sym at ∙ subst (λ (z : ℕ). get_elem? s.views z ≡ some u) e note.at) in
      absurd (let l = pass in let z = ap length (ap View.tabs same ∙ note.no_tabs) in omega arith)

  -- Making a note.

  abbrev noting : View X
  noting = learns v [] item

  abbrev noting_state : State X
  noting_state = renewed s (set s.views i noting)

  noting_renews : Renews k s (set s.views i noting)
  noting_renews = pass_renews k s so i v noting at pass (learns_goes v [] item quiet) (known_view k s so.anchors.seen i v at)

  noting_sound : Sound k noting_state
  noting_sound = renews_sound k s (set s.views i noting) noting_renews so

  noting_logged : LogStands k noting_state log
  noting_logged = renews_logged k s log (set s.views i noting) noting_renews st

  noting_known : SightsKnown k noting_state v.seen
  noting_known = known_view k noting_state noting_sound.anchors.seen i noting (set_here s.views i noting (at_length s.views i v at))

  pub noted_behind_logged : LogStands k (noted_behind s i v item) log
  noted_behind_logged = renews_logged k noting_state log (noting_state.views ++ note_of v ∷ []) (new_note_renews k noting_state noting_sound v noting_known) noting_logged

  pub noted_at_logged : (n : ℕ) (u : View X) → IsSpentAt s n u → LogStands k (noted_at s i v item n) log
  noted_at_logged n u free = renews_logged k noting_state log (set noting_state.views n (note_of v))
      (note_renews k noting_state noting_sound n u v
      (set_else s.views i n noting (elsewhere n u free.note) ∙ free.note.at)
      (so.anchors.shaped.notes n u free.note.at free.note.no_tabs)
      (λ x h. absurd (contains_none x (subst (λ z. Contains z x) free.unseen h)))
      noting_known)
      noting_logged

  -- Learning one.

  module _ (n : ℕ) (u : View X) (note : IsNoteAt s n u) where
    abbrev learning : View X
    learning = learns v u.seen item

    abbrev learning_state : State X
    learning_state = renewed s (set s.views i learning)

    learning_renews : Renews k s (set s.views i learning)
    learning_renews = pass_renews k s so i v learning at pass (learns_goes v u.seen item quiet)
        (known_both k s u.seen v.seen (known_view k s so.anchors.seen n u note.at) (known_view k s so.anchors.seen i v at))

    still_known : (x : Sight) → Contains u.seen x → Knows (set learning_state.views n spent) x
    still_known x h = record {
      i = i;
      view = learning;
      at = set_else learning_state.views n i spent (λ e. elsewhere n u note (sym e)) ∙ set_here s.views i learning (at_length s.views i v at);
      seen = Contains-append_left u.seen v.seen x h;
    }

    pub learned_from_logged : LogStands k (learned_from s i v item n u) log
    learned_from_logged = let sound = renews_sound k s (set s.views i learning) learning_renews so in renews_logged k learning_state log (set learning_state.views n spent)
        (note_renews k learning_state sound n u spent (set_else s.views i n learning (elsewhere n u note) ∙ note.at)
        (so.anchors.shaped.notes n u note.at note.no_tabs) still_known (known_none k learning_state))
        (renews_logged k s log (set s.views i learning) learning_renews st)
