-- What a tab that writes or frees has in its hands may be another cell, by no step: the state stays sound.
use Rattle.std.proofs.Common.{◌≡◌, ◌≢◌, ⊎_elim, inr, ℕ, ◌<◌, zero, suc, List, [], ◌∷◌, set, length-set, sym, refl, ap, ◌∙◌, subst, arith, Some, Contains}
use mathlib.Core.Option.{some, some-injective}
use mathlib.Core.Logic.{dite}
use native.Mathlib.Decide.{ℕ_discrete}
use lib.ListN.{get_elem?}
use Rattle.lock_word.specs.Words.{epoch_of, version_of}
use Rattle.core_model.specs.declared.tab.Piece.{Piece}
use Rattle.core_model.specs.declared.tab.Hold.{Hold}
use Rattle.core_model.specs.declared.tab.Turn.TheVariants.{Has}
use Rattle.core_model.specs.declared.tab.Writer.{Writer}
use Rattle.core_model.specs.declared.tab.Freer.{Freer}
use Rattle.core_model.specs.declared.tab.Tab.{Tab}
use Rattle.core_model.specs.declared.tab.Tab.TheVariants.{Freeing, Writing}
use Rattle.core_model.specs.declared.view.Deed.{Deed}
use Rattle.core_model.specs.declared.view.Item.{Item}
use Rattle.core_model.specs.declared.view.Kind.TheVariants.{Wrote}
use Rattle.core_model.specs.declared.view.Sight.TheVariants.{Stood, Named, Published}
use Rattle.core_model.specs.declared.view.View.{View}
use Rattle.core_model.specs.Layout.{Setting}
use Rattle.core_model.specs.State.{State, chain_of}
use Rattle.core_model.specs.Slots.{slot_words}
use Rattle.core_model.specs.Deeds.{IsDone}
use Rattle.core_model.specs.Sound.{Sound}
use Rattle.core_model.proofs.Lists.{at_length, at_set, set_here, set_else}
use Rattle.core_model.proofs.BesideKinds.{quiet_wrote}
use Rattle.core_model.proofs.TurnsKept.{writer_holds, turned_freer, turned_writer, held_inside}
use Rattle.core_model.proofs.CellMovesKept.{cell_both}
use Rattle.core_model.proofs.CellsWritten.{hold_freer, hold_writer}
use Rattle.core_model.proofs.NotesFrame.{Goes, known_view}
use Rattle.core_model.proofs.NotesCells.{renews_sound}
use Rattle.core_model.proofs.NotesRenewed.{pass_renews}
use Rattle.core_model.proofs.TellsNoMore.{HasChosen, TellsNoMore, same_writer, deeds_stay}
use Rattle.core_model.specs.Tabs.{IsPass}
use Rattle.core_model.specs.Holders.{IsTab}
use Rattle.core_model.specs.TableForms.{renewed, with_hold, with_wiper, MayRewrite, MayBlank, with_held, with_wiped}
use Rattle.core_model.specs.Versions.{IsShown, SightsLead}
use Rattle.core_model.specs.Trails.{find_before}

set_twice : {A : Type 0} → (xs : List A) (i : ℕ) (x y : A) → set (set xs i x) i y ≡ set xs i y
set_twice [] i x y = refl
set_twice (z ∷ zs) zero x y = refl
set_twice (z ∷ zs) (suc i) x y = ap (λ (q : List _). z ∷ q) (set_twice zs i x y)

-- the view with any trail
abbrev pub with_trail : {X : Type 0} → View X → List Item → View X
with_trail v trail = record v { trail = trail }

-- the view with another tab
abbrev pub with_other : {X : Type 0} → View X → ℕ → Tab X → View X
with_other v t new = record v { tabs = set v.tabs t new }

-- where a tab becomes another one by no step, which chose what the old one did, if anything
module _ {X : Type 0} (s : State X) (i : ℕ) (v : View X) (t : ℕ) (old new : Tab X) (trail : List Item) (at : get_elem? s.views i ≡ some v) (was : get_elem? v.tabs t ≡ some old)
    (choice : (x : Writer X) (p : Piece) → new ≡ Writing x → x.chosen ≡ Some p → HasChosen s x p) where
  abbrev pub held : View X
  held = with_trail (with_other v t new) trail

  deeds_before : (j : ℕ) (y : View X) (d : Deed) → get_elem? (set s.views i held) j ≡ some y → Contains y.deeds d → IsDone s (λ x. x ≡ d)
  deeds_before j y d yat c = ⊎_elim
      (λ (q : (j ≡ i) × (held ≡ y)). record { i = i; view = v; at = at; deed = d; done = subst (λ (z : View X). Contains z.deeds d) (sym q.1) c; so = refl })
      (λ (q : (j ≢ i) × (get_elem? s.views j ≡ some y)). record { i = j; view = y; at = q.1; deed = d; done = c; so = refl })
      (at_set s.views i j held y yat)

  deeds_after : (j : ℕ) (u : View X) (d : Deed) → get_elem? s.views j ≡ some u → Contains u.deeds d → IsDone (renewed s (set s.views i held)) (λ x. x ≡ d)
  deeds_after j u d uat c = dite (ℕ_discrete j i)
      (λ e. record { i = i; view = held; at = set_here s.views i held (at_length s.views i v at); deed = d; done = subst (λ (z : View X). Contains z.deeds d) (some-injective u v (sym uat ∙ ap (get_elem? s.views) e ∙ at)) c; so = refl })
      (λ ne. record { i = j; view = u; at = set_else s.views i j held ne ∙ uat; deed = d; done = c; so = refl })

  had_chosen : (j u : ℕ) (x : Writer X) (p : Piece) → IsTab (renewed s (set s.views i held)) j u (Writing x) → x.chosen ≡ Some p → HasChosen s x p
  had_chosen j u x p is c = ⊎_elim
      (λ (q : (j ≡ i) × (held ≡ is.view)). mine (subst (λ (z : View X). get_elem? z.tabs u ≡ some (Writing x)) (sym q.1) is.there))
      (λ (q : (j ≢ i) × (get_elem? s.views j ≡ some is.view)). record { i = j; t = u; writer = x; is_tab = record { view = is.view; at = q.1; there = is.there }; chosen = c; same = same_writer x })
      (at_set s.views i j held is.view is.at)
    where
      mine : get_elem? held.tabs u ≡ some (Writing x) → HasChosen s x p
      mine e = ⊎_elim
          (λ (q : (u ≡ t) × (new ≡ Writing x)). choice x p q.1 c)
          (λ (q : (u ≢ t) × (get_elem? v.tabs u ≡ some (Writing x))). record { i = i; t = u; writer = x; is_tab = record { view = v; at = at; there = q.1 }; chosen = c; same = same_writer x })
          (at_set v.tabs t u new (Writing x) e)

  pub tells_no_more : TellsNoMore s (renewed s (set s.views i held))
  tells_no_more = record { words = refl; chains = refl; deeds = deeds_before; done = deeds_after; chosen = λ j u x p is c. had_chosen j u x p is c }

-- where a writing tab comes to have another cell in its hands, by no step
pub rewritten_tells : {X : Type 0} → (s : State X) (i : ℕ) (v : View X) (t : ℕ) (w : Writer X) (h : Hold X) (trail : List Item) → get_elem? s.views i ≡ some v → get_elem? v.tabs t ≡ some (Writing w)
    → TellsNoMore s (renewed s (set s.views i (with_trail (with_hold v t w h) trail)))
rewritten_tells {X} s i v t w h trail at was = tells_no_more s i v t (Writing w) (Writing record w { turn = Has h }) trail at was chosen
  where
    as_tab : Tab X → Writer X
    as_tab (Writing y) = y
    as_tab _ = w

    chosen : (x : Writer X) (p : Piece) → Writing record w { turn = Has h } ≡ Writing x → x.chosen ≡ Some p → HasChosen s x p
    chosen x p e c = let same = ap as_tab e in record {
      i = i;
      t = t;
      writer = w;
      is_tab = record { view = v; at = at; there = was };
      chosen = ap Writer.chosen same ∙ c;
      same = record { anchor = sym (ap Writer.anchor same); key0 = sym (ap Writer.key0 same); key1 = sym (ap Writer.key1 same); offer = sym (ap Writer.offer same) };
    }

-- where a freeing tab does
pub wiped_tells : {X : Type 0} → (s : State X) (i : ℕ) (v : View X) (t : ℕ) (f : Freer X) (h : Hold X) (trail : List Item) → get_elem? s.views i ≡ some v → get_elem? v.tabs t ≡ some (Freeing f)
    → TellsNoMore s (renewed s (set s.views i (with_trail (with_wiper v t f h) trail)))
wiped_tells {X} s i v t f h trail at was = tells_no_more s i v t (Freeing f) (Freeing record f { turn = Has h }) trail at was (λ x p e c. absurd (no_writer x e))
  where
    no_writer : (x : Writer X) → Freeing record f { turn = Has h } ≡ Writing x → ⊥
    no_writer x e = cc

module _ {X : Type 0} (k : Setting X) (s : State X) (i : ℕ) (v : View X) (so : Sound k s) (at : get_elem? s.views i ≡ some v) (pass : IsPass v) (t : ℕ) (new : Tab X) (slot : ℕ) where
  abbrev kept : View X
  kept = with_other v t new

  abbrev wrote : Item
  wrote = record { kind = Wrote; at = slot; found = 0 }

  -- with an item more, as a step on the cell would leave it
  abbrev told : View X
  told = with_trail kept (wrote ∷ v.trail)

  -- it has seen, and holds, what it did before
  told_sights : SightsLead k (renewed s (set s.views i told))
  told_sights = record {
    stages = λ j u uat a e lt c. ⊎_elim
        (λ (q : (j ≡ i) × (told ≡ u)). so.sights.stages i v at a e lt (subst (λ (z : View X). Contains z.seen (Stood a e)) (sym q.1) c))
        (λ (q : (j ≢ i) × (get_elem? s.views j ≡ some u)). so.sights.stages j u q.1 a e lt c)
        (at_set s.views i j told u uat);
    shown = λ j u uat a version side value c new. still_shown a version (⊎_elim
        (λ (q : (j ≡ i) × (told ≡ u)). so.sights.shown i v at a version side value (subst (λ (z : View X). Contains z.seen (Named a version side value)) (sym q.1) c) new)
        (λ (q : (j ≢ i) × (get_elem? s.views j ≡ some u)). so.sights.shown j u q.1 a version side value c new)
        (at_set s.views i j told u uat));
    old = λ j u uat a version side value c low. ⊎_elim
        (λ (q : (j ≡ i) × (told ≡ u)). so.sights.old i v at a version side value (subst (λ (z : View X). Contains z.seen (Named a version side value)) (sym q.1) c) low)
        (λ (q : (j ≢ i) × (get_elem? s.views j ≡ some u)). so.sights.old j u q.1 a version side value c low)
        (at_set s.views i j told u uat);
    before = λ j u uat a version lt c. ⊎_elim
        (λ (q : (j ≡ i) × (told ≡ u)). subst (λ (z : View X). version_of (epoch_of (find_before version a z.trail)) < version) q.1
        (so.sights.before i v at a version lt (subst (λ (z : View X). Contains z.held version) (sym q.1) c)))
        (λ (q : (j ≢ i) × (get_elem? s.views j ≡ some u)). so.sights.before j u q.1 a version lt c)
        (at_set s.views i j told u uat);
  }
    where
      still_shown : (a version : ℕ) → IsShown s a version → IsShown (renewed s (set s.views i told)) a version
      still_shown a version x = dite (ℕ_discrete x.i i)
          (λ e. record {
            i = i;
            view = told;
            at = set_here s.views i told (at_length s.views i v at);
            many = x.many;
            seen = subst (λ (z : View X). Contains z.seen (Published a version x.many)) (some-injective x.view v (sym x.at ∙ ap (get_elem? s.views) e ∙ at)) x.seen;
            some_slot = x.some_slot;
          })
          (λ ne. record { i = x.i; view = x.view; at = set_else s.views i x.i told ne ∙ x.at; many = x.many; seen = x.seen; some_slot = x.some_slot })

  -- the item told no number
  goes : Goes told kept
  goes = record {
    pass = refl;
    tabs = refl;
    held = refl;
    mirror = refl;
    deeds = refl;
    met = refl;
    find = λ a. refl;
    since = λ version a. refl;
    before = λ version a. refl;
    as_drawn = λ version. omega arith;
    as_draws = omega arith;
    as_vain = omega arith;
    as_count = refl;
    looked = λ x c e. (suc c.0, let lt = c.1 in omega arith, c.2);
    drew = λ x c e. (suc c.0, let lt = c.1 in omega arith, c.2);
    sees = λ a. omega arith;
    keeps = λ x c. c;
  }

  -- without the item it is sound too
  pub without_item : Sound k (renewed s (set s.views i told)) → Sound k (renewed s (set s.views i kept))
  without_item told_sound = let told_state : State X = renewed s (set s.views i told) in let there = set_here s.views i told (at_length s.views i v at) in
      subst (λ (vs : List (View X)). Sound k (renewed s vs)) (set_twice s.views i told kept)
      (renews_sound k told_state (set told_state.views i kept)
      (pass_renews k told_state told_sound i told kept there (length-set v.tabs t new ∙ pass) goes (known_view k told_state told_sound.anchors.seen i told there))
      told_sound)

module _ {X : Type 0} (k : Setting X) (s : State X) (i : ℕ) (v : View X) (so : Sound k s) (at : get_elem? s.views i ≡ some v) (pass : IsPass v) (t : ℕ) (w : Writer X) (h h' : Hold X) (may : MayRewrite k v t w h h') where
  abbrev written : Tab X
  written = Writing record w { turn = Has h' }

  pub rewritten_sound : Sound k (with_held s i v t w h')
  rewritten_sound = without_item k s i v so at pass t written h.slot (
      let item : Item = wrote k s i v so at pass t written h.slot in let told_view : View X = told k s i v so at pass t written h.slot in
      let both = cell_both k s i v so at pass t h.slot item quiet_wrote (Writing w) written may.writes
      (turned_writer k s i v so at pass t h.slot w w.is_written w.is_settled (Has h')
      (held_inside k s i v so at pass t h.slot (Writing w) (so.cells.turns i v at t (Writing w) may.writes) h may.turn refl)
      (writer_holds ((slot_words k s.words).beside w.anchor) (chain_of s w.anchor) w w.is_written w.is_settled (Has h') (so.slots.tabs i v at t (Writing w) may.writes))) in record {
        anchors = both.anchors;
        slots = both.slots;
        map = so.map;
        cells = hold_writer k s i v so at told_view (λ x c. c) t h h' may.slot_is w (Has h') may.writes may.turn refl refl (inr may.possible) may.image may.settled;
        deeds_tell = deeds_stay k s (renewed s (set s.views i told_view)) (rewritten_tells s i v t w h' (item ∷ v.trail) at may.writes) so.deeds_tell;
        sights = told_sights k s i v so at pass t written h.slot;
      })

module _ {X : Type 0} (k : Setting X) (s : State X) (i : ℕ) (v : View X) (so : Sound k s) (at : get_elem? s.views i ≡ some v) (pass : IsPass v) (t : ℕ) (f : Freer X) (h h' : Hold X) (may : MayBlank k v t f h h') where
  abbrev wiped : Tab X
  wiped = Freeing record f { turn = Has h' }

  pub wiped_sound : Sound k (with_wiped s i v t f h')
  wiped_sound = without_item k s i v so at pass t wiped h.slot (
      let item : Item = wrote k s i v so at pass t wiped h.slot in let told_view : View X = told k s i v so at pass t wiped h.slot in
      let fits = so.cells.turns i v at t (Freeing f) may.frees in
      let both = cell_both k s i v so at pass t h.slot item quiet_wrote (Freeing f) wiped may.frees
      (turned_freer k s i v so at pass t h.slot f (Has h') (held_inside k s i v so at pass t h.slot (Freeing f) fits h may.turn refl) may.frees (fits h may.turn).1.freeing) in record {
        anchors = both.anchors;
        slots = both.slots;
        map = so.map;
        cells = hold_freer k s i v so at told_view (λ x c. c) t h h' may.slot_is f (Has h') may.frees may.turn refl refl (inr may.possible);
        deeds_tell = deeds_stay k s (renewed s (set s.views i told_view)) (wiped_tells s i v t f h' (item ∷ v.trail) at may.frees) so.deeds_tell;
        sights = told_sights k s i v so at pass t wiped h.slot;
      })
