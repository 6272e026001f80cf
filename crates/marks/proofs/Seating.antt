-- The opening, and seats that are cut off and taken in, keep the rule.
use Rattle.std.proofs.Common.{◌≡◌, ◌≢◌, ⊎_elim, ℕ, ◌<◌, zero, suc, Option, Some, None, List, [], ◌∷◌, ◌++◌, map, length, get_or, set, sym, refl, ap, ◌∙◌, subst, arith, Bool, true, false, cond, not, ◌==◌, eq-eqb, ne_eqb, Contains, replicate}
use mathlib.Core.Option.{some, some-injective, some-ne-none}
use mathlib.Core.Logic.{dite}
use native.Mathlib.Decide.{ℕ_discrete}
use lib.ListN.{get_elem?}
use Rattle.std.proofs.lemmas.List.{get_or-replicate, length-replicate}
use Rattle.std.proofs.lemmas.List.Elements.{Contains-append_cases}
use Rattle.atomic_table.specs.Table.{State, Splits, Joins, opening}
use Rattle.atomic_table.proofs.Lists.{at_set}
use Rattle.marks.specs.declared.view.View.{View}
use Rattle.marks.specs.Ruled.{Phase, idle, busy, full, set_by, number_of, Grips, Records, Lies, Fits, Ruled}
use Rattle.marks.specs.Views.{marks_below, opening_view, spent, dealer, dealt, joined}
use Rattle.marks.proofs.Lists.{none_in, first_in, later_in, cons_cases, from_filter, to_filter, snoc_cases}

-- what was in the hands of the seat i, between two calls, is in those of j
reseated : {N : Type 0} → ℕ → ℕ → Phase N → Phase N
reseated i j (idle o was) = cond (o == i) (idle j was) (idle o was)
reseated i j (busy o was) = busy o was
reseated i j (full was note) = full was note

picked : {N : Type 0} → (ℕ → Bool) → ℕ → ℕ → (ℕ → Phase N) → ℕ → Phase N
picked picks i j phases k = cond (picks k) (reseated i j (phases k)) (phases k)

by_cases : {N : Type 0} (P : Phase N → Type 0) (b : Bool) (x y : Phase N) → P x → P y → P (cond b x y)
by_cases P true x y px py = px
by_cases P false x y px py = py

module _ {N : Type 0} where
  mine : (i j : ℕ) (was : Option N) → reseated i j (idle i was) ≡ idle j was
  unfolding reseated
  mine i j was = ap (λ (b : Bool). cond b (idle j was) (idle i was)) (eq-eqb i i refl)

  other : (i j o : ℕ) (was : Option N) → o ≢ i → reseated i j (idle o was) ≡ idle o was
  unfolding reseated
  other i j o was ne = ap (λ (b : Bool). cond b (idle j was) (idle o was)) (ne_eqb o i ne)

  reseated_is : (P : Phase N → Type 0) (i j : ℕ) (q : Phase N) → ((o o' : ℕ) (was : Option N) → P (idle o was) → P (idle o' was)) → P q → P (reseated i j q)
  unfolding reseated
  reseated_is P i j (idle o was) same p = by_cases P (o == i) (idle j was) (idle o was) (same o j was p) p
  reseated_is P i j (busy o was) same p = p
  reseated_is P i j (full was note) same p = p

  picked_is : (P : Phase N → Type 0) (picks : ℕ → Bool) (i j : ℕ) (phases : ℕ → Phase N) (k : ℕ) → ((o o' : ℕ) (was : Option N) → P (idle o was) → P (idle o' was)) → P (phases k) → P (picked picks i j phases k)
  unfolding picked
  picked_is P picks i j phases k same p = by_cases P (picks k) (reseated i j (phases k)) (phases k) (reseated_is P i j (phases k) same p) p

  busy_stays : (picks : ℕ → Bool) (i j o : ℕ) (phases : ℕ → Phase N) (k : ℕ) (was : Option N) → phases k ≡ busy o was → picked picks i j phases k ≡ busy o was
  unfolding picked reseated
  busy_stays picks i j o phases k was e = subst (λ (q : Phase N). cond (picks k) (reseated i j q) q ≡ busy o was) (sym e) (by_cases (λ q. q ≡ busy o was) (picks k) (busy o was) (busy o was) refl refl)

  others_stay : (picks : ℕ → Bool) (i j o : ℕ) (phases : ℕ → Phase N) (k : ℕ) (was : Option N) → o ≢ i → phases k ≡ idle o was → picked picks i j phases k ≡ idle o was
  unfolding picked
  others_stay picks i j o phases k was ne e = subst (λ (q : Phase N). cond (picks k) (reseated i j q) q ≡ idle o was) (sym e) (by_cases (λ q. q ≡ idle o was) (picks k) (reseated i j (idle o was)) (idle o was) (other i j o was ne) refl)

  unpicked_stays : (picks : ℕ → Bool) (i j : ℕ) (phases : ℕ → Phase N) (k : ℕ) → picks k ≡ false → picked picks i j phases k ≡ phases k
  unfolding picked
  unpicked_stays picks i j phases k e = ap (λ (b : Bool). cond b (reseated i j (phases k)) (phases k)) e

  picked_moves : (picks : ℕ → Bool) (i j : ℕ) (phases : ℕ → Phase N) (k : ℕ) (was : Option N) → picks k ≡ true → phases k ≡ idle i was → picked picks i j phases k ≡ idle j was
  unfolding picked
  picked_moves picks i j phases k was e at = ap (λ (b : Bool). cond b (reseated i j (phases k)) (phases k)) e ∙ (ap (reseated i j) at ∙ mine i j was)

  recorded : (picks : ℕ → Bool) (i j : ℕ) (phases : ℕ → Phase N) (list : List (ℕ × N)) → Records phases list → Records (picked picks i j phases) list
  recorded picks i j phases list r k was h = picked_is (λ q. set_by q ≡ Some was) picks i j phases k (λ o o' w e. e) (r k was h)

not_true : (b : Bool) → not b ≡ true → b ≡ false
not_true true e = sym e
not_true false e = refl

module _ {K N Fact Place : Type 0} (tells : N → Fact → Type 0) (place : N → Place) (home : K → Place) where
  -- what holds of the places holds still
  reseats : (about : K) (s : State (Option N) (View K N)) (so : Ruled tells place home about s) (picks : ℕ → Bool) (i j : ℕ) (views : List (View K N))
      → ((o : ℕ) (v : View K N) → get_elem? views o ≡ some v → Fits tells place home about (picked picks i j so.phases) o v) → Ruled tells place home about record { words = s.words; homes = s.homes; views = views }
  reseats about s so picks i j views fit = record {
    phases = picked picks i j so.phases;
    word_count = so.word_count;
    words = λ k lt. picked_is (λ q. get_or s.words k 0 ≡ number_of q) picks i j so.phases k (λ o o' w e. e) (so.words k lt);
    slots = λ k lt. picked_is (λ q. Lies tells place home about q (get_elem? s.homes k)) picks i j so.phases k (λ o o' w e. e) (so.slots k lt);
    seats = fit;
  }

  stays : (about : K) (phases : ℕ → Phase N) (picks : ℕ → Bool) (i j o : ℕ) (v : View K N) → o ≢ i → Fits tells place home about phases o v → Fits tells place home about (picked picks i j phases) o v
  stays about phases picks i j o v ne fit = record {
    key = fit.key;
    held = λ k x h. let t = fit.held k x h in (t.0, others_stay picks i j o phases k t.0 ne t.1, t.2);
    moving = λ k x h. let t = fit.moving k x h in (t.0, busy_stays picks i j o phases k t.0 t.1, t.2);
    set = recorded picks i j phases v.set fit.set;
    met = recorded picks i j phases v.met fit.met;
  }

  dealer_fits : (about : K) (phases : ℕ → Phase N) (picks : ℕ → Bool) (i j : ℕ) (v : View K N) → Fits tells place home about phases i v → Fits tells place home about (picked picks i j phases) i (dealer picks v)
  dealer_fits about phases picks i j v fit = record {
    key = fit.key;
    held = λ k x h.
        let f = from_filter (λ (r : ℕ × Option N). not (picks r.0)) v.held (k, x) h in
        let t = fit.held k x f.1 in
        (t.0, unpicked_stays picks i j phases k (not_true (picks k) f.0) ∙ t.1, t.2);
    moving = λ k x h. let t = fit.moving k x h in (t.0, busy_stays picks i j i phases k t.0 t.1, t.2);
    set = recorded picks i j phases v.set fit.set;
    met = recorded picks i j phases v.met fit.met;
  }

  dealt_fits : (about : K) (phases : ℕ → Phase N) (picks : ℕ → Bool) (i j : ℕ) (v : View K N) → Fits tells place home about phases i v → Fits tells place home about (picked picks i j phases) j (dealt picks v)
  dealt_fits about phases picks i j v fit = record {
    key = fit.key;
    held = λ k x h.
        let f = from_filter (λ (r : ℕ × Option N). picks r.0) v.held (k, x) h in
        let t = fit.held k x f.1 in
        (t.0, picked_moves picks i j phases k t.0 f.0 t.1, t.2);
    moving = λ k x h. absurd (none_in (k, x) h);
    set = λ k was h. absurd (none_in (k, was) h);
    met = λ k was h. absurd (none_in (k, was) h);
  }

  pub deal_allowed : (about : K) (id : ℕ) (v : View K N) (picks : ℕ → Bool) → Splits (Ruled tells place home about) id v (dealer picks v) (dealt picks v)
  deal_allowed about id v picks s so at = reseats about s so picks id (length (set s.views id (dealer picks v))) (set s.views id (dealer picks v) ++ dealt picks v ∷ []) (λ o u e. ⊎_elim
      (λ (t : get_elem? (set s.views id (dealer picks v)) o ≡ some u). ⊎_elim
      (λ (h : (o ≡ id) × (dealer picks v ≡ u)). subst (λ (i : ℕ). Fits tells place home about (picked picks id (length (set s.views id (dealer picks v))) so.phases) i u) (sym h.0) (subst (Fits tells place home about (picked picks id (length (set s.views id (dealer picks v))) so.phases) id) h.1 (dealer_fits about so.phases picks id (length (set s.views id (dealer picks v))) v (so.seats id v at))))
      (λ (h : (o ≢ id) × (get_elem? s.views o ≡ some u)). stays about so.phases picks id (length (set s.views id (dealer picks v))) o u h.0 (so.seats o u h.1))
      (at_set s.views id o (dealer picks v) u t))
      (λ (t : (o ≡ length (set s.views id (dealer picks v))) × (dealt picks v ≡ u)).
      subst (λ (i : ℕ). Fits tells place home about (picked picks id (length (set s.views id (dealer picks v))) so.phases) i u) (sym t.0) (subst (Fits tells place home about (picked picks id (length (set s.views id (dealer picks v))) so.phases) (length (set s.views id (dealer picks v)))) t.1 (dealt_fits about so.phases picks id (length (set s.views id (dealer picks v))) v (so.seats id v at))))
      (snoc_cases (set s.views id (dealer picks v)) (dealt picks v) u o e))

  join_fits : (about : K) (phases : ℕ → Phase N) (i o : ℕ) (v w : View K N) → i ≢ o → Fits tells place home about phases i v → Fits tells place home about phases o w → Fits tells place home about (picked (λ _. true) o i phases) i (joined v w)
  join_fits about phases i o v w ne fit more = record {
    key = fit.key;
    held = λ k x h. ⊎_elim
        (λ (t : Contains v.held (k, x)). let c = fit.held k x t in (c.0, others_stay (λ _. true) o i i phases k c.0 ne c.1, c.2))
        (λ (t : Contains w.held (k, x)). let c = more.held k x t in (c.0, picked_moves (λ _. true) o i phases k c.0 refl c.1, c.2))
        (Contains-append_cases v.held w.held (k, x) h);
    moving = λ k x h. let t = fit.moving k x h in (t.0, busy_stays (λ _. true) o i i phases k t.0 t.1, t.2);
    set = λ k was h. ⊎_elim (recorded (λ _. true) o i phases v.set fit.set k was) (recorded (λ _. true) o i phases w.set more.set k was) (Contains-append_cases v.set w.set (k, was) h);
    met = λ k was h. ⊎_elim (recorded (λ _. true) o i phases v.met fit.met k was) (recorded (λ _. true) o i phases w.met more.met k was) (Contains-append_cases v.met w.met (k, was) h);
  }

  spent_fits : (about : K) (phases : ℕ → Phase N) (o : ℕ) → Fits tells place home about phases o spent
  spent_fits about phases o = record {
    key = λ k e. cc;
    held = λ k x h. absurd (none_in (k, x) h);
    moving = λ k x h. absurd (none_in (k, x) h);
    set = λ k was h. absurd (none_in (k, was) h);
    met = λ k was h. absurd (none_in (k, was) h);
  }

  pub join_allowed : (about : K) (id : ℕ) (v : View K N) (o : ℕ) (w : View K N) → Joins (Ruled tells place home about) id v o w (joined v w) spent
  join_allowed about id v o w s so at ne there = reseats about s so (λ _. true) o id (set (set s.views id (joined v w)) o spent) (λ i u e. ⊎_elim
      (λ (t : (i ≡ o) × (spent ≡ u)). subst (Fits tells place home about (picked (λ _. true) o id so.phases) i) t.1 (spent_fits about (picked (λ _. true) o id so.phases) i))
      (λ (t : (i ≢ o) × (get_elem? (set s.views id (joined v w)) i ≡ some u)). ⊎_elim
      (λ (h : (i ≡ id) × (joined v w ≡ u)). subst (λ (j : ℕ). Fits tells place home about (picked (λ _. true) o id so.phases) j u) (sym h.0)
      (subst (Fits tells place home about (picked (λ _. true) o id so.phases) id) h.1 (join_fits about so.phases id o v w (λ q. ne (sym q)) (so.seats id v at) (so.seats o w (was_there s there)))))
      (λ (h : (i ≢ id) × (get_elem? s.views i ≡ some u)). stays about so.phases (λ _. true) o id i u t.0 (so.seats i u h.1))
      (at_set s.views id i (joined v w) u t.1))
      (at_set (set s.views id (joined v w)) o i spent u e))
    where
      was_there : (s : State (Option N) (View K N)) → get_elem? (set s.views id (joined v w)) o ≡ some w → get_elem? s.views o ≡ some w
      was_there s e = ⊎_elim (λ (h : (o ≡ id) × (joined v w ≡ w)). absurd (ne h.0)) (λ (h : (o ≢ id) × (get_elem? s.views o ≡ some w)). h.1) (at_set s.views id o (joined v w) w e)

  home_at : (n k : ℕ) → k < n → get_elem? (map some (replicate {A = Option N} n None)) k ≡ some (some None)
  home_at zero k lt = absurd (omega arith)
  home_at (suc n) zero lt = refl
  home_at (suc n) (suc k) lt = home_at n k (omega arith)

  unset : (n k : ℕ) (x : Option N) → Contains (marks_below n) (k, x) → x ≡ None
  unset zero k x h = absurd (none_in (k, x) h)
  unset (suc n) k x h = ⊎_elim (λ (e : (n, None) ≡ (k, x)). sym (ap (λ (z : ℕ × Option N). z.1) e)) (λ (t : Contains (marks_below n) (k, x)). unset n k x t) (cons_cases (n, None) (k, x) (marks_below n) h)

  opening_fits : (about : K) → Fits tells place home about (λ _. idle 0 None) 0 (opening_view about)
  opening_fits about = record {
    key = λ k e. let q : Some about ≡ Some k = e in cc;
    held = λ k x h. (None, refl, subst (Grips tells None) (sym (unset 64 k x h)) tt);
    moving = λ k x h. absurd (none_in (k, x) h);
    set = λ k was h. absurd (none_in (k, was) h);
    met = λ k was h. absurd (none_in (k, was) h);
  }

  pub opening_allowed : (about : K) → Ruled tells place home about (opening (replicate 64 0) (replicate 64 None) (opening_view about))
  opening_allowed about = record {
    phases = λ _. idle 0 None;
    word_count = length-replicate {A = ℕ} 64 0;
    words = λ k lt. get_or-replicate 64 k 0 0 lt;
    slots = λ k lt. home_at 64 k lt;
    seats = λ i v e. one i v e;
  }
    where
      one : (i : ℕ) (v : View K N) → get_elem? (opening_view about ∷ []) i ≡ some v → Fits tells place home about (λ _. idle 0 None) i v
      one zero v e = subst (Fits tells place home about (λ _. idle 0 None) 0) (some-injective (opening_view about) v e) (opening_fits about)
      one (suc i) v e = absurd (some-ne-none v (sym e))

module _ {N : Type 0} where
  pub below_in : (n k : ℕ) → k < n → Contains {X = ℕ × Option N} (marks_below n) (k, None)
  below_in zero k lt = absurd (omega arith)
  below_in (suc n) k lt = dite (ℕ_discrete k n)
      (λ e. subst (λ (j : ℕ). Contains {X = ℕ × Option N} (marks_below (suc n)) (j, None)) (sym e) (first_in {X = ℕ × Option N} (n, None) (marks_below n)))
      (λ ne. later_in {X = ℕ × Option N} (n, None) (k, None) (marks_below n) (below_in n k (omega arith)))

  -- a dealt seat may set the marks that are picked, and the dealer the others
  pub dealt_has : {K : Type 0} (picks : ℕ → Bool) (v : View K N) (k : ℕ) → picks k ≡ true → Contains v.held (k, None) → Contains (dealt picks v).held (k, None)
  dealt_has picks v k e h = to_filter (λ (r : ℕ × Option N). picks r.0) v.held (k, None) e h

  pub dealer_has : {K : Type 0} (picks : ℕ → Bool) (v : View K N) (k : ℕ) → picks k ≡ false → Contains v.held (k, None) → Contains (dealer picks v).held (k, None)
  dealer_has picks v k e h = to_filter (λ (r : ℕ × Option N). not (picks r.0)) v.held (k, None) (ap not e) h
