-- Where words and chains stay, no deed is new and no choice is, what deeds tell stays so: notes, and cells that a tab holds.
use Rattle.std.proofs.Common.{◌≡◌, ⊎_elim, ℕ, List, sym, refl, subst, Some, Contains}
use mathlib.Core.Option.{some, some-ne-none}
use lib.ListN.{get_elem?}
use Rattle.lock_word.specs.Words.{version_of}
use Rattle.core_model.specs.declared.tab.Piece.{Piece}
use Rattle.core_model.specs.declared.tab.Writer.{Writer}
use Rattle.core_model.specs.declared.tab.Tab.{Tab}
use Rattle.core_model.specs.declared.tab.Tab.TheVariants.{Writing}
use Rattle.core_model.specs.declared.view.Deed.{Deed}
use Rattle.core_model.specs.declared.view.View.{View}
use Rattle.core_model.specs.Layout.{Setting}
use Rattle.core_model.specs.State.{State}
use Rattle.core_model.specs.Deeds.{IsDone, LeftEpoch, HaltedVersion, ClosedVersion, EvictedVersion, TookVersion, DeedsTell}
use Rattle.core_model.proofs.Lists.{contains_none}
use Rattle.core_model.proofs.AnchorDeeds.{done_as}
use Rattle.core_model.proofs.NotesFrame.{Before, Later, Learned, Renews}
use Rattle.core_model.specs.CellMoves.{note_of}
use Rattle.core_model.specs.Holders.{IsTab}
use Rattle.core_model.specs.Entries.{IsSameWriter}
use Rattle.core_model.specs.TableForms.{renewed}

-- a tab that chose this piece, and writes as this one does
pub record HasChosen {X : Type 0} (s : State X) (x : Writer X) (p : Piece) : Type 0 where
  pub i : ℕ
  pub t : ℕ
  pub writer : Writer X
  pub is_tab : IsTab s i t (Writing writer)
  pub chosen : writer.chosen ≡ Some p
  pub same : IsSameWriter writer x

-- the views of the state t tell the deeds that those of s tell, and no other choice
pub record TellsNoMore {X : Type 0} (s t : State X) : Type 0 where
  pub words : t.words ≡ s.words
  pub chains : t.chains ≡ s.chains
  pub deeds : (j : ℕ) (w : View X) (d : Deed) → get_elem? t.views j ≡ some w → Contains w.deeds d → IsDone s (λ x. x ≡ d)
  pub done : (j : ℕ) (u : View X) (d : Deed) → get_elem? s.views j ≡ some u → Contains u.deeds d → IsDone t (λ x. x ≡ d)
  pub chosen : (j u : ℕ) (x : Writer X) (p : Piece) → IsTab t j u (Writing x) → x.chosen ≡ Some p → HasChosen s x p

pub deeds_stay : {X : Type 0} → (k : Setting X) (s t : State X) → TellsNoMore s t → DeedsTell k s → DeedsTell k t
deeds_stay {X} k s t less st = record {
  old = λ a e h low. st.old a e (was (LeftEpoch a e) h) low;
  taken = λ a e h high. is (TookVersion a (version_of e)) (st.taken a e (was (LeftEpoch a e) h) high);
  halted = λ a e h four. is (HaltedVersion a (version_of e)) (st.halted a e (was (LeftEpoch a e) h) four);
  begun = λ a e h. st.begun a e (was (LeftEpoch a e) h);
  grown = λ a e h doom. st.grown a e (was (LeftEpoch a e) h) doom;
  closed = λ a e h three undoomed. is (ClosedVersion a (version_of e)) (st.closed a e (was (LeftEpoch a e) h) three undoomed);
  evicted = λ a version high h. is (ClosedVersion a version) (st.evicted a version high (was (EvictedVersion a version) h));
}
  where
    was : (P : Deed → Type 0) → IsDone t P → IsDone s P
    was P h = done_as s (λ x. x ≡ h.deed) P (λ d q. subst P (sym q) h.so) (less.deeds h.i h.view h.deed h.at h.done)

    is : (P : Deed → Type 0) → IsDone s P → IsDone t P
    is P h = done_as t (λ x. x ≡ h.deed) P (λ d q. subst P (sym q) h.so) (less.done h.i h.view h.deed h.at h.done)

pub same_writer : {X : Type 0} → (w : Writer X) → IsSameWriter w w
same_writer w = record { anchor = refl; key0 = refl; key1 = refl; offer = refl }

-- where passes come to have seen more, and notes come and go
pub renews_tells : {X : Type 0} → (k : Setting X) (s : State X) (views : List (View X)) → Renews k s views → TellsNoMore s (renewed s views)
renews_tells {X} k s views r = record { words = refl; chains = refl; deeds = deeds; done = done; chosen = chosen }
  where
    deeds : (j : ℕ) (w : View X) (d : Deed) → get_elem? views j ≡ some w → Contains w.deeds d → IsDone s (λ x. x ≡ d)
    deeds j w d at h = ⊎_elim
        (λ (b : Before s.views j w). record { i = j; view = b.0; at = b.1; deed = d; done = subst (λ (z : List Deed). Contains z d) b.2.deeds h; so = refl })
        (λ (e : w ≡ note_of w). absurd (contains_none d (subst (λ (z : View X). Contains z.deeds d) e h)))
        (r.now j w at)

    done : (j : ℕ) (u : View X) (d : Deed) → get_elem? s.views j ≡ some u → Contains u.deeds d → IsDone (renewed s views) (λ x. x ≡ d)
    done j u d at h = ⊎_elim
        (λ (l : Later views j u). record { i = j; view = l.0; at = l.1; deed = d; done = subst (λ (z : List Deed). Contains z d) (sym l.2.deeds) h; so = refl })
        (λ (l : Learned views u). absurd (contains_none d (subst (λ (z : View X). Contains z.deeds d) l.0 h)))
        (r.later j u at)

    chosen : (j u : ℕ) (x : Writer X) (p : Piece) → IsTab (renewed s views) j u (Writing x) → x.chosen ≡ Some p → HasChosen s x p
    chosen j u x p is c = ⊎_elim
        (λ (b : Before s.views j is.view). record { i = j; t = u; writer = x; is_tab = record { view = b.0; at = b.1; there = subst (λ (z : List (Tab X)). get_elem? z u ≡ some (Writing x)) b.2.tabs is.there }; chosen = c; same = same_writer x })
        (λ (e : is.view ≡ note_of is.view). absurd (some-ne-none (Writing x) (sym (subst (λ (z : View X). get_elem? z.tabs u ≡ some (Writing x)) e is.there))))
        (r.now j is.view is.at)
