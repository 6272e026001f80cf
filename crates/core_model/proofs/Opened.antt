-- A store that was just opened is sound.
use Rattle.std.proofs.Common.{◌≡◌, ◌⊎◌, inl, inr, ⊎_elim, ℕ, zero, suc, ◌+◌, ◌*◌, ◌<◌, ◌≤◌, List, [], length, get_or, sym, refl, ap, ◌∙◌, subst, arith, sum_by, true, eq-eqb, ne_eqb, replicate, Contains}
use Rattle.std.proofs.lemmas.List.Sums.{sum_by-cons}
use mathlib.Core.Option.{some, some-injective, some-ne-none}
use mathlib.Core.Logic.{dite}
use native.Mathlib.Decide.{ℕ_discrete}
use lib.ListN.{get_elem?}
use Rattle.lock_word.specs.Words.{readers_of, epoch_of, version_of, stage_of, doom_of, IsWord, is_left_over}
use Rattle.lock_word.proofs.Testing.{stage_of-left_over}
use Rattle.rebuild_model.specs.declared.rebuilt.Rebuilt.{Rebuilt}
use Rattle.core_model.specs.declared.tab.Tab.{Tab}
use Rattle.core_model.specs.declared.tab.Tab.TheVariants.{Free}
use Rattle.core_model.specs.declared.view.Sight.{Sight}
use Rattle.core_model.specs.declared.view.Sight.TheVariants.{Stood, Named, Published}
use Rattle.core_model.specs.declared.view.View.{View}
use Rattle.core_model.specs.Layout.{Setting, counter_index, anchor_index}
use Rattle.core_model.specs.State.{State, word}
use Rattle.core_model.specs.Trails.{seen_at, sight_anchor, sight_version}
use Rattle.core_model.specs.Tabs.{count}
use Rattle.core_model.specs.Anchors.{IsSetting, tabs_in, opening_epoch, opening_counter, written_at, freed_at}
use Rattle.core_model.specs.Versions.{IsKnownAt, IsSighted}
use Rattle.core_model.specs.Deeds.{IsEpochAt}
use Rattle.core_model.specs.Opening.{sights_below, new_view, new_views, IsOpened}
use Rattle.core_model.specs.Sound.{AnchorsSound}
use Rattle.core_model.proofs.Lists.{cons_contains, contains_none}

module _ {X : Type 0} (k : Setting X) where
  -- the view i is that of the pass from + i
  new_at : (n from i : ℕ) (v : View X) → get_elem? (new_views k from n) i ≡ some v → (v ≡ new_view k (from + i)) × (i < n)
  new_at zero from i v e = absurd (some-ne-none v (sym e))
  new_at (suc n) from zero v e = (sym (some-injective _ v e) ∙ ap (new_view k) (omega arith), omega arith)
  new_at (suc n) from (suc i) v e = let r = new_at n (from + 1) i v e in (r.0 ∙ ap (new_view k) (omega arith), let z = r.1 in omega arith)

  -- a sum over new views of what each has none of
  new_sum : (f : View X → ℕ) → ((p : ℕ) → f (new_view k p) ≡ 0) → (n from : ℕ) → sum_by f (new_views k from n) ≡ 0
  new_sum f h zero from = refl
  new_sum f h (suc n) from = let c = sum_by-cons f (new_view k from) (new_views k (from + 1) n) in let r = new_sum f h n (from + 1) in let z = h from in omega arith

  new_tabs : (n from : ℕ) → sum_by tabs_in (new_views k from n) ≡ 9 * n
  new_tabs zero from = refl
  new_tabs (suc n) from = let c = sum_by-cons tabs_in (new_view k from) (new_views k (from + 1) n) in let r = new_tabs n (from + 1) in omega arith

  -- a new pass has seen each anchor as it stood
  pub sight_is : (n : ℕ) (x : Sight) → Contains (sights_below k n) x → (a : ℕ) × (a < n) × (x ≡ Stood a (opening_epoch k a))
  sight_is zero x h = absurd (contains_none x h)
  sight_is (suc n) x h = ⊎_elim (λ (q : Stood n (opening_epoch k n) ≡ x). (n, omega arith, sym q))
      (λ (q : Contains (sights_below k n) x). let r = sight_is n x q in (r.0, (let z = r.1 in omega arith), r.2)) (cons_contains _ x _ h)

  seen_above : (n a : ℕ) → n ≤ a → seen_at a (sights_below k n) ≡ 0
  seen_above zero a h = refl
  seen_above (suc n) a h = let r = seen_above n a (omega arith) in let z = ne_eqb n a (λ q. absurd (omega arith)) in rw z (omega arith)

  seen_below : (n a : ℕ) → a < n → seen_at a (sights_below k n) ≡ opening_epoch k a
  seen_below zero a h = absurd (omega arith)
  seen_below (suc n) a h = dite (ℕ_discrete n a)
      (λ q. let z = eq-eqb n a q in let r = seen_above n a (omega arith) in let e = ap (opening_epoch k) q in rw z (omega arith))
      (λ ne. let z = ne_eqb n a ne in let r = seen_below n a (omega arith) in rw z (omega arith))

  module _ (r : Rebuilt) (s : State X) (is : IsSetting k) (o : IsOpened k r s) where
    pub at_new : (i : ℕ) (v : View X) → get_elem? s.views i ≡ some v → (v ≡ new_view k i) × (i < k.passes)
    at_new i v e = let q = new_at k.passes 0 i v (subst (λ (vs : List (View X)). get_elem? vs i ≡ some v) o.views e) in (q.0 ∙ ap (new_view k) (omega arith), q.1)

    -- a fact about each view
    each : (P : View X → Type 0) → ((p : ℕ) → P (new_view k p)) → (i : ℕ) (v : View X) → get_elem? s.views i ≡ some v → P v
    each P h i v e = let q = at_new i v e in subst P (sym q.0) (h i)

    same_at : (p : ℕ) → get_or s.words p 0 ≡ get_or k.words p 0
    same_at p = ap (λ (ws : List ℕ). get_or ws p 0) o.words

    same_word : (a : ℕ) → word s a ≡ get_or k.words (anchor_index a) 0
    same_word a = same_at (anchor_index a)

    pub no_sum : (f : View X → ℕ) → ((p : ℕ) → f (new_view k p) ≡ 0) → sum_by f s.views ≡ 0
    no_sum f h = ap (sum_by f) o.views ∙ new_sum f h k.passes 0

    stage_low : (a : ℕ) → a < k.anchors → (stage_of (epoch_of (word s a)) ≡ 0) ⊎ (stage_of (epoch_of (word s a)) ≡ 3)
    stage_low a lt = let e = ap (λ (n : ℕ). stage_of (epoch_of n)) (same_word a) in ⊎_elim (λ (q : stage_of (opening_epoch k a) ≡ 0). inl (e ∙ q)) (λ (q : stage_of (opening_epoch k a) ≡ 3). inr (e ∙ q)) (is.stage a lt)

    known_is : (a u : ℕ) → IsKnownAt k s a u → u ≤ opening_counter k
    known_is a u (inl h) = let e = ap (λ (n : ℕ). version_of (epoch_of n)) (same_word a) in let z = is.version a h.0 in let q = h.1 in omega arith
    known_is a u (inr h) = let q = at_new h.i h.view h.at in let x = sight_is k.anchors h.sight (subst (λ (w : View X). Contains w.seen h.sight) q.0 h.seen) in
        let v = ap sight_version x.2 in let z = is.version x.0 x.1 in let y = h.version_is in omega arith

    pub epoch_is : (a e : ℕ) → IsEpochAt k s a e → (a < k.anchors) × (e ≡ opening_epoch k a)
    epoch_is a e (inl h) = (h.0, sym h.1 ∙ ap epoch_of (same_word a))
    epoch_is a e (inr h) = let q = at_new h.0 h.1 h.2 in let x = sight_is k.anchors (Stood a e) (subst (λ (w : View X). Contains w.seen (Stood a e)) q.0 h.3) in
        let at : a ≡ x.0 = ap sight_anchor x.2 in (subst (λ (z : ℕ). z < k.anchors) (sym at) x.1, ap epoch_in x.2 ∙ ap (opening_epoch k) (sym at))
      where
        epoch_in : Sight → ℕ
        epoch_in (Stood c y) = y
        epoch_in _ = 0

    no_others : (x : Sight) → ((b e : ℕ) → x ≡ Stood b e → ⊥) → Contains (sights_below k k.anchors) x → ⊥
    no_others x h g = let q = sight_is k.anchors x g in h q.0 (opening_epoch k q.0) q.2

    pub free_tab : (t : ℕ) (tab : Tab X) → get_elem? (replicate 9 Free) t ≡ some tab → tab ≡ Free
    free_tab t tab e = all_free 9 t tab e
      where
        all_free : (n t : ℕ) (tab : Tab X) → get_elem? (replicate n Free) t ≡ some tab → tab ≡ Free
        all_free zero t tab e = absurd (some-ne-none tab (sym e))
        all_free (suc n) zero tab e = sym (some-injective Free tab e)
        all_free (suc n) (suc t) tab e = all_free n t tab e

    is_a_word : (a : ℕ) → a < k.anchors → IsWord (word s a)
    is_a_word a lt = let st = stage_low a lt in let e = same_word a in let d = is.undoomed a lt in let v = is.version a lt in let c = is.limited in let r = is.unread a lt in
        let m = is.mode a lt in record { fits = omega arith; mode = omega arith; stage = omega arith }

    pub opens : AnchorsSound k s
    opens = record {
      setting = is;
      shaped = record {
        words = o.count;
        places = o.places;
        chains = o.chains;
        tabs = ap (sum_by tabs_in) o.views ∙ new_tabs k.passes 0;
        notes = each (λ u. u.tabs ≡ [] → _) (λ p h. cc);
        anchors = is_a_word;
      };
      readers = λ a lt. ap readers_of (same_word a) ∙ is.unread a lt ∙ sym (no_sum _ (λ p. refl));
      writers = λ a u g lt. unwritten a lt u g ∙ sym (no_sum _ (λ p. refl));
      freers = λ a u d lt. unfreed a u d lt ∙ sym (no_sum _ (λ p. refl));
      tabs = λ i v e t tab h. let q = at_new i v e in let f = free_tab t tab (subst (λ (w : View X). get_elem? w.tabs t ≡ some tab) q.0 h) in subst (Rattle.core_model.specs.Anchors.TabStands k s v t) (sym f) tt;
      lasts = λ a lt over. absurd (not_over a lt over);
      seen = record {
        epochs = each (λ u. (a : ℕ) → a < k.anchors → seen_at a u.seen ≤ epoch_of (word s a)) (λ p a lt. let x = seen_below k.anchors a lt in let e = same_word a in rw (x, e) (omega arith));
        no_start = λ i v e b version value h. absurd (no_others (Named b version Rattle.core_model.specs.declared.moves.Side.TheVariants.Start value) (λ c y q. cc) (subst (λ (w : View X). Contains w.seen (Named b version Rattle.core_model.specs.declared.moves.Side.TheVariants.Start value)) (at_new i v e).0 h));
        inside = each (λ u. (x : Sight) → Contains u.seen x → sight_anchor x < k.anchors) (λ p x h. let q = sight_is k.anchors x h in subst (λ (z : Sight). sight_anchor z < k.anchors) (sym q.2) q.1);
        known = each (λ u. (x : Sight) → Contains u.seen x → sight_version x ≤ version_of (seen_at (sight_anchor x) u.seen))
            (λ p x h. let q = sight_is k.anchors x h in subst (λ (z : Sight). sight_version z ≤ version_of (seen_at (sight_anchor z) (sights_below k k.anchors))) (sym q.2) (let y = seen_below k.anchors q.0 q.1 in rw y (omega arith)));
        named = λ i v e b version side value h. absurd (no_others (Named b version side value) (λ c y q. cc) (subst (λ (w : View X). Contains w.seen (Named b version side value)) (at_new i v e).0 h));
        published = λ i v e b version many h. absurd (no_others (Published b version many) (λ c y q. cc) (subst (λ (w : View X). Contains w.seen (Published b version many)) (at_new i v e).0 h));
        agree = λ i j v w e g b version side x y h hy. absurd (no_others (Named b version side x) (λ c y q. cc) (subst (λ (w : View X). Contains w.seen (Named b version side x)) (at_new i v e).0 h));
      };
      drawn = record {
        counted = let e = same_at (counter_index k) in let z = no_sum Rattle.core_model.specs.Versions.draws_by (λ p. refl) in omega arith;
        looked = each (λ u. (x : _) → Contains u.trail x → _ → _) (λ p x h. absurd (contains_none x h));
        drew = each (λ u. (x : _) → Contains u.trail x → _ → _) (λ p x h. absurd (contains_none x h));
        once = λ version. let z = no_sum (Rattle.core_model.specs.Versions.drawn_by version) (λ p. refl) in omega arith;
        above = λ version h. absurd (let z = no_sum (Rattle.core_model.specs.Versions.drawn_by version) (λ p. refl) in omega arith);
        stand = λ a lt. let e = same_word a in let c = same_at (counter_index k) in let z = is.version a lt in let y = ap (λ (n : ℕ). version_of (epoch_of n)) e in omega arith;
        limited = let e = same_at (counter_index k) in let z = is.limited in omega arith;
        vain = each (λ u. 9 * Rattle.core_model.specs.Trails.draws_in_vain u.trail ≤ length u.tabs) (λ p. omega arith);
        stops = each (λ u. 0 < Rattle.core_model.specs.Trails.draws_in_vain u.trail → _) (λ p h. absurd (omega arith));
      };
      held = record {
        fresh = λ i v e version h. absurd (contains_none version (subst (λ (w : View X). Contains w.held version) (at_new i v e).0 h));
        since = λ i v e a version lt h. absurd (contains_none version (subst (λ (w : View X). Contains w.held version) (at_new i v e).0 h));
        one_anchor = λ a b version high p q. absurd (let z = known_is a version p in omega arith);
        finds = each (λ u. (a : ℕ) → epoch_of (Rattle.core_model.specs.Trails.last_find a u.trail) ≤ seen_at a u.seen) (λ p a. omega arith);
      };
      mirror = λ one i v e some_tabs p lt. subst (λ (w : View X). Rattle.core_model.specs.Deeds.mirrored k p w.mirror ≡ get_or s.words p 0) (sym (at_new i v e).0) (sym (same_at p));
      deeds = record {
        left = λ a e h. inl (epoch_is a e h).1;
        doomed = λ a e h d. let q = epoch_is a e h in absurd (let z = is.undoomed a q.0 in let y = ap doom_of q.1 in omega arith);
        undoomed = λ a e h d st. let q = epoch_is a e h in absurd (let z = is.stage a q.0 in let y = ap stage_of q.1 in omega arith);
        entered = each (λ u. (a : ℕ) → 0 < count (Rattle.core_model.specs.Tabs.counts a) u → _) (λ p a h. absurd (omega arith));
        met = λ i v e a h. absurd (contains_none a (subst (λ (w : View X). Contains w.met a) (at_new i v e).0 h));
        numbers = λ i j v w e g p q same. sym (ap View.pass (at_new i v e).0) ∙ same ∙ ap View.pass (at_new j w g).0;
      };
    }
      where
        unwritten : (a : ℕ) → a < k.anchors → (u g : ℕ) → written_at (epoch_of (word s a)) u g ≡ 0
        unwritten a lt u g = ⊎_elim (λ (q : stage_of (epoch_of (word s a)) ≡ 0). rw q refl) (λ (q : stage_of (epoch_of (word s a)) ≡ 3). rw q refl) (stage_low a lt)

        unfreed : (a u d : ℕ) → a < k.anchors → freed_at (epoch_of (word s a)) u d ≡ 0
        unfreed a u d lt = ⊎_elim (λ (q : stage_of (epoch_of (word s a)) ≡ 0). rw q refl) (λ (q : stage_of (epoch_of (word s a)) ≡ 3). rw q refl) (stage_low a lt)

        not_over : (a : ℕ) → a < k.anchors → is_left_over (word s a) ≡ true → ⊥
        not_over a lt over = let x = stage_of-left_over (word s a) over in let st = stage_low a lt in let e = same_word a in let d = is.undoomed a lt in let y = ap (λ (n : ℕ). doom_of (epoch_of n)) e in omega arith
