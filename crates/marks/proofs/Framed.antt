-- A step at one mark leaves what the rule says of the others.
use Rattle.std.proofs.Common.{◌≡◌, ◌≢◌, ⊎_elim, ℕ, ◌<◌, Option, Some, List, [], ◌∷◌, get_or, set, sym, refl, ap, ◌∙◌, subst, arith, Bool, true, false, cond, not, ◌==◌, eq-eqb, ne_eqb, Contains}
use mathlib.Core.Option as maybe
use mathlib.Core.Option.{some}
use mathlib.Core.Logic.{dite}
use native.Mathlib.Decide.{ℕ_discrete}
use lib.ListN.{get_elem?}
use Rattle.std.specs.List.{filter}
use Rattle.std.proofs.lemmas.List.{get_or-set_same, get_or-set_other}
use Rattle.std.proofs.Math.ListN.{length-set}
use Rattle.atomic_table.specs.Table.{State}
use Rattle.atomic_table.proofs.Lists.{at_set}
use Rattle.marks.specs.declared.view.View.{View}
use Rattle.marks.specs.Ruled.{Phase, idle, busy, full, set_by, number_of, Grips, Claims, Records, Lies, Fits, Ruled}
use Rattle.marks.proofs.Lists.{none_in, cons_cases, from_filter}

-- the phase of one mark is another
abbrev pub changed : {N : Type 0} → (ℕ → Phase N) → ℕ → Phase N → ℕ → Phase N
changed phases m p k = cond (k == m) p (phases k)

-- the place is in the hands of this seat, or in no seat's
abbrev pub Owned : {N : Type 0} → ℕ → Phase N → Type 0
Owned id (idle i was) = i ≡ id
Owned id (busy i was) = i ≡ id
Owned id (full was note) = Unit {0}

-- what had been set is still what was set
abbrev pub Grows : {N : Type 0} → Phase N → Phase N → Type 0
Grows {N} q p = (was : N) → set_by q ≡ Some was → set_by p ≡ Some was

true_not : (b : Bool) → not b ≡ true → b ≡ true → ⊥
true_not true e h = cc
true_not false e h = cc

module _ {N : Type 0} (phases : ℕ → Phase N) (m : ℕ) (p : Phase N) where
  pub changed_here : changed phases m p m ≡ p
  changed_here = ap (λ (b : Bool). cond b p (phases m)) (eq-eqb m m refl)

  pub changed_else : (k : ℕ) → k ≢ m → changed phases m p k ≡ phases k
  changed_else k ne = ap (λ (b : Bool). cond b p (phases k)) (ne_eqb k m ne)

  pub records_grow : (list : List (ℕ × N)) → Grows (phases m) p → Records phases list → Records (changed phases m p) list
  records_grow list grows r k was h = dite (ℕ_discrete k m)
      (λ e. subst (λ (j : ℕ). set_by (changed phases m p j) ≡ Some was) (sym e) (ap set_by changed_here ∙ grows was (subst (λ (j : ℕ). set_by (phases j) ≡ Some was) e (r k was h))))
      (λ ne. ap set_by (changed_else k ne) ∙ r k was h)

  pub records_more : (list : List (ℕ × N)) (note : N) → set_by p ≡ Some note → Records (changed phases m p) list → Records (changed phases m p) ((m, note) ∷ list)
  records_more list note e r k was h = ⊎_elim
      (λ (same : (m, note) ≡ (k, was)). subst (λ (z : ℕ × N). set_by (changed phases m p z.0) ≡ Some z.1) same (ap set_by changed_here ∙ e))
      (λ (t : Contains list (k, was)). r k was t)
      (cons_cases (m, note) (k, was) list h)

  module _ {Fact : Type 0} (tells : N → Fact → Type 0) where
    pub claims_none : (phase : Option N → Phase N) → Claims tells (changed phases m p) phase []
    claims_none phase k x h = absurd (none_in (k, x) h)

    pub claims_away : (phase : Option N → Phase N) (list : List (ℕ × Option N)) → ((was : Option N) → phases m ≡ phase was → ⊥) → Claims tells phases phase list → Claims tells (changed phases m p) phase list
    claims_away phase list never c k x h = let t = c k x h in dite (ℕ_discrete k m)
        (λ e. absurd (never t.0 (ap phases (sym e) ∙ t.1)))
        (λ ne. (t.0, changed_else k ne ∙ t.1, t.2))

    pub claims_without : (phase : Option N → Phase N) (list : List (ℕ × Option N)) → Claims tells phases phase list → Claims tells (changed phases m p) phase (filter (λ (r : ℕ × Option N). not (r.0 == m)) list)
    claims_without phase list c k x h =
        let f = from_filter (λ (r : ℕ × Option N). not (r.0 == m)) list (k, x) h in
        let t = c k x f.1 in
        (t.0, changed_else k (λ e. true_not (k == m) f.0 (eq-eqb k m e)) ∙ t.1, t.2)

    pub claims_more : (phase : Option N → Phase N) (list : List (ℕ × Option N)) (was x : Option N) → p ≡ phase was → Grips tells was x → Claims tells (changed phases m p) phase list → Claims tells (changed phases m p) phase ((m, x) ∷ list)
    claims_more phase list was x e grip c k y h = ⊎_elim
        (λ (same : (m, x) ≡ (k, y)). subst (λ (z : ℕ × Option N). (a : Option N) × (changed phases m p z.0 ≡ phase a) × Grips tells a z.1) same (was, changed_here ∙ e, grip))
        (λ (t : Contains list (k, y)). c k y t)
        (cons_cases (m, x) (k, y) list h)

    -- the claims of one mark, whose phase is now another
    pub claims_moved : (phase new : Option N → Phase N) (list : List (ℕ × Option N)) (was : Option N) → ((a : Option N) → set_by (phase a) ≡ a) → phases m ≡ phase was → p ≡ new was → Claims tells phases phase list → Claims tells (changed phases m p) new (filter (λ (r : ℕ × Option N). r.0 == m) list)
    claims_moved phase new list was back at e c k x h =
        let f = from_filter (λ (r : ℕ × Option N). r.0 == m) list (k, x) h in
        let t = c k x f.1 in
        let here : k ≡ m = same_number k m f.0 in
        let one : t.0 ≡ was = sym (back t.0) ∙ (ap set_by (sym t.1 ∙ (ap phases here ∙ at)) ∙ back was) in
        (was, ap (changed phases m p) here ∙ (changed_here ∙ e), subst (λ (a : Option N). Grips tells a x) one t.2)
      where
        same_number : (a b : ℕ) → (a == b) ≡ true → a ≡ b
        same_number a b e = dite (ℕ_discrete a b) (λ s. s) (λ ne. let z : false ≡ true = sym (ne_eqb a b ne) ∙ e in cc)

module _ {K N Fact Place : Type 0} (tells : N → Fact → Type 0) (place : N → Place) (home : K → Place) where
  pub others_fit : (about : K) (phases : ℕ → Phase N) (m : ℕ) (p : Phase N) (id j : ℕ) (u : View K N) → j ≢ id → Owned id (phases m) → Grows (phases m) p → Fits tells place home about phases j u → Fits tells place home about (changed phases m p) j u
  others_fit about phases m p id j u ne own grows fit = record {
    key = fit.key;
    held = claims_away phases m p tells (idle j) u.held (λ was e. ne (subst (Owned id) e own)) fit.held;
    moving = claims_away phases m p tells (busy j) u.moving (λ was e. ne (subst (Owned id) e own)) fit.moving;
    set = records_grow phases m p u.set grows fit.set;
    met = records_grow phases m p u.met grows fit.met;
  }

  pub framed : (about : K) (s : State (Option N) (View K N)) (so : Ruled tells place home about s) (id m n : ℕ) (p : Phase N) (homes : List (maybe.Option (Option N))) (w : View K N)
      → m < 64 → n ≡ number_of p → Lies tells place home about p (get_elem? homes m) → ((k : ℕ) → k ≢ m → get_elem? homes k ≡ get_elem? s.homes k)
      → Owned id (so.phases m) → Grows (so.phases m) p → Fits tells place home about (changed so.phases m p) id w
      → Ruled tells place home about record { words = set s.words m n; homes = homes; views = set s.views id w }
  framed about s so id m n p homes w lt number lies same own grows fits = record {
    phases = changed so.phases m p;
    word_count = length-set s.words m n ∙ so.word_count;
    words = λ k below. dite (ℕ_discrete k m)
        (λ e. subst (λ (j : ℕ). get_or (set s.words m n) j 0 ≡ number_of (changed so.phases m p j)) (sym e) (get_or-set_same s.words m n 0 (let c = so.word_count in omega arith) ∙ (number ∙ ap number_of (sym (changed_here so.phases m p)))))
        (λ ne. get_or-set_other s.words m k n 0 ne ∙ (so.words k below ∙ ap number_of (sym (changed_else so.phases m p k ne))));
    slots = λ k below. dite (ℕ_discrete k m)
        (λ e. subst (λ (j : ℕ). Lies tells place home about (changed so.phases m p j) (get_elem? homes j)) (sym e) (subst (λ (q : Phase N). Lies tells place home about q (get_elem? homes m)) (sym (changed_here so.phases m p)) lies))
        (λ ne. subst (λ (q : Phase N). Lies tells place home about q (get_elem? homes k)) (sym (changed_else so.phases m p k ne)) (subst (λ (x : maybe.Option (maybe.Option (Option N))). Lies tells place home about (so.phases k) x) (sym (same k ne)) (so.slots k below)));
    seats = λ i v e. ⊎_elim
        (λ (t : (i ≡ id) × (w ≡ v)). subst (λ (j : ℕ). Fits tells place home about (changed so.phases m p) j v) (sym t.0) (subst (λ (u : View K N). Fits tells place home about (changed so.phases m p) id u) t.1 fits))
        (λ (t : (i ≢ id) × (get_elem? s.views i ≡ some v)). others_fit about so.phases m p id i v t.0 own grows (so.seats i v t.1))
        (at_set s.views id i w v e);
  }
