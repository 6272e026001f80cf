-- Each step keeps the rule.
use Rattle.std.proofs.Common.{◌≡◌, ◌≢◌, ⊎_elim, ℕ, ◌<◌, Option, Some, None, List, [], ◌∷◌, ◌++◌, length, get_or, set, sym, refl, ap, ◌∙◌, subst, arith, Bool, ◌==◌, eq-eqb, ne_eqb, Contains}
use mathlib.Core.Option.{some, none}
use mathlib.Core.Logic.{dite}
use native.Mathlib.Decide.{ℕ_discrete}
use prog.Atomic.{either}
use lib.ListN.{get_elem?}
use Rattle.std.proofs.lemmas.List.Elements.{Contains-append_cases}
use Rattle.atomic_table.specs.Table.{State, Me, Allows, step, keeps, takes, gives}
use Rattle.atomic_table.proofs.Lists.{set_else, set_here, set_again}
use Rattle.marks.specs.declared.view.View.{View}
use Rattle.marks.specs.Ruled.{Phase, idle, busy, full, set_by, number_of, IsEmpty, Knows, Grips, Claims, Records, Lies, Fits, Ruled}
use Rattle.marks.specs.Plays.{FoundEmpty, took, emptied, entered, marked, replaced, agreed}
use Rattle.marks.specs.Views.{opened, Agrees}
use Rattle.marks.proofs.Lists.{first_in, to_filter, set_same}
use Rattle.marks.proofs.Framed.{changed, Owned, Grows, records_grow, records_more, claims_none, claims_away, claims_without, claims_more, claims_moved, framed}

module _ {N : Type 0} where
  is_full : (q : Phase N) → number_of q ≡ 1 → (was : N) × (note : N) × (q ≡ full was note)
  is_full (idle i was) e = absurd (omega arith)
  is_full (busy i was) e = absurd (omega arith)
  is_full (full was note) e = (was, note, refl)

  not_full : (q : Phase N) → (number_of q ≡ 1 → ⊥) → IsEmpty q
  not_full (idle i was) e = tt
  not_full (busy i was) e = tt
  not_full (full was note) e = e refl

  apart : (q a b : Phase N) → q ≡ a → q ≡ b → number_of a ≢ number_of b → ⊥
  apart q a b x y ne = ne (ap number_of (sym x ∙ y))

  module _ {Fact : Type 0} (tells : N → Fact → Type 0) where
    no_grip : (was : Option N) → Grips tells was None → was ≡ None
    no_grip None g = refl
    no_grip (Some w) g = absurd g

    a_grip : (was : Option N) (old : N) → Grips tells was (Some old) → (w : N) × (was ≡ Some w) × Knows tells w old
    a_grip None old g = absurd g
    a_grip (Some w) old g = (w, refl, g)

module _ {K N Fact Place : Type 0} (tells : N → Fact → Type 0) (place : N → Place) (home : K → Place) where
  unchanged : (about : K) (s : State (Option N) (View K N)) (id m n : ℕ) (v : View K N) → get_elem? s.views id ≡ some v → n ≡ get_or s.words m 0
      → Ruled tells place home about s → Ruled tells place home about record { words = set s.words m n; homes = s.homes; views = set s.views id v }
  unchanged about s id m n v at e so =
      let ws : set s.words m n ≡ s.words = ap (set s.words m) e ∙ set_same s.words m 0 in
      let vs : set s.views id v ≡ s.views = set_again s.views id v at in
      subst (λ (x : List ℕ). Ruled tells place home about record { words = x; homes = s.homes; views = set s.views id v }) (sym ws)
      (subst (λ (x : List (View K N)). Ruled tells place home about record { words = s.words; homes = s.homes; views = x }) (sym vs) so)

  pub take_allowed : (about : K) (slots id m : ℕ) (v : View K N) → m < 64 → Allows (Ruled tells place home about) slots id (v, []) m (λ n. either (n == 1) 2 n) (took tells place home (step slots m 1 2 none) (v, []))
  take_allowed about slots id m v lt s so deep at fits = dite (ℕ_discrete (get_or s.words m 0) 1)
      (λ one.
      let f = is_full (so.phases m) (sym (so.words m lt) ∙ one) in
      let fit = so.seats id v at in
      let lies : Lies tells place home about (full f.0 f.1) (get_elem? s.homes m) = subst (λ (q : Phase N). Lies tells place home about q (get_elem? s.homes m)) f.2 (so.slots m lt) in
      let grows : Grows (so.phases m) (busy id (Some f.0)) = λ a h. sym (ap set_by f.2) ∙ h in
      let w : View K N = record v { moving = (m, Some f.1) ∷ []; met = (m, f.0) ∷ v.met } in (
        w,
        takes m (Some f.1),
        lies.0,
        framed tells place home about s so id m (either (get_or s.words m 0 == 1) 2 (get_or s.words m 0)) (busy id (Some f.0)) (set s.homes m none) w lt
            (ap (λ (b : Bool). either b 2 (get_or s.words m 0)) (eq-eqb (get_or s.words m 0) 1 one)) tt (λ k ne. set_else s.homes m k none ne)
            (subst (Owned id) (sym f.2) tt) grows record {
              key = fit.key;
              held = claims_away so.phases m (busy id (Some f.0)) tells (idle id) v.held (λ a q. apart (so.phases m) (full f.0 f.1) (idle id a) f.2 q (λ e. omega arith)) fit.held;
              moving = claims_more so.phases m (busy id (Some f.0)) tells (busy id) [] (Some f.0) (Some f.1) refl lies.1 (claims_none so.phases m (busy id (Some f.0)) tells (busy id));
              set = records_grow so.phases m (busy id (Some f.0)) v.set grows fit.set;
              met = records_more so.phases m (busy id (Some f.0)) v.met f.0 refl (records_grow so.phases m (busy id (Some f.0)) v.met grows fit.met);
            },
        ((λ _. record { note = f.1; was = f.0; view = refl; hand = refl; more = lies.1; here = λ k e. lies.2 ∙ ap home (sym (fit.key k e)) }), (λ ne. absurd (ne one))),
      ))
      (λ ne. (
        v,
        keeps,
        tt,
        unchanged about s id m (either (get_or s.words m 0 == 1) 2 (get_or s.words m 0)) v at (ap (λ (b : Bool). either b 2 (get_or s.words m 0)) (ne_eqb (get_or s.words m 0) 1 ne)) so,
        (
          (λ one. absurd (ne one)),
          (λ _. (
            refl,
            λ k e. subst (λ (b : K). FoundEmpty tells place home b m v) (sym ((so.seats id v at).key k e))
                record { state = s; rule = so; id = id; seat = at; empty = not_full (so.phases m) (λ one. ne (so.words m lt ∙ one)) },
          )),
        ),
      ))

  pub empty_allowed : (about : K) (slots id m : ℕ) (v : View K N) (x : Option N) → m < 64 → m < slots → v.moving ≡ (m, x) ∷ []
      → Allows (Ruled tells place home about) slots id (v, (m, None) ∷ []) m (λ _. 0) (λ _. emptied (step slots m 0 0 none) (v, (m, None) ∷ []) 0)
  empty_allowed about slots id m v x lt within moves s so deep at fits =
      let fit = so.seats id v at in
      let t = fit.moving m x (subst (λ (l : List (ℕ × Option N)). Contains l (m, x)) (sym moves) (first_in (m, x) [])) in
      let p : Phase N = idle id t.0 in
      let grows : Grows (so.phases m) p = λ a h. sym (ap set_by t.1) ∙ h in (
        record v { held = v.moving ++ v.held; moving = [] },
        gives,
        tt,
        framed tells place home about s so id m 0 p (set s.homes m (some None)) record v { held = v.moving ++ v.held; moving = [] } lt refl
            (set_here s.homes m (some None) (omega arith)) (λ k ne. set_else s.homes m k (some None) ne) (subst (Owned id) (sym t.1) refl) grows record {
              key = fit.key;
              held = subst (λ (l : List (ℕ × Option N)). Claims tells (changed so.phases m p) (idle id) (l ++ v.held)) (sym moves)
                  (claims_more so.phases m p tells (idle id) v.held t.0 x refl t.2 (claims_away so.phases m p tells (idle id) v.held (λ a q. apart (so.phases m) (busy id t.0) (idle id a) t.1 q (λ e. omega arith)) fit.held));
              moving = claims_none so.phases m p tells (busy id);
              set = records_grow so.phases m p v.set grows fit.set;
              met = records_grow so.phases m p v.met grows fit.met;
            },
        refl,
      )

  pub open_allowed : (about : K) (slots id m : ℕ) (v : View K N) (x : Option N) → m < 64 → Contains v.held (m, x)
      → Allows (Ruled tells place home about) slots id (v, []) m (λ _. 2) (λ _. entered (step slots m 2 0 none) (v, []) 2)
  open_allowed about slots id m v x lt held s so deep at fits =
      let fit = so.seats id v at in
      let t = fit.held m x held in
      let p : Phase N = busy id t.0 in
      let grows : Grows (so.phases m) p = λ a h. sym (ap set_by t.1) ∙ h in
      let lies : Lies tells place home about (idle id t.0) (get_elem? s.homes m) = subst (λ (q : Phase N). Lies tells place home about q (get_elem? s.homes m)) t.1 (so.slots m lt) in (
        opened m v,
        takes m None,
        lies,
        framed tells place home about s so id m 2 p (set s.homes m none) (opened m v) lt refl tt (λ k ne. set_else s.homes m k none ne) (subst (Owned id) (sym t.1) refl) grows record {
          key = fit.key;
          held = claims_without so.phases m p tells (idle id) v.held fit.held;
          moving = claims_moved so.phases m p tells (idle id) (busy id) v.held t.0 (λ a. refl) t.1 refl fit.held;
          set = records_grow so.phases m p v.set grows fit.set;
          met = records_grow so.phases m p v.met grows fit.met;
        },
        refl,
      )

  -- a note is given back with its place, whose `was` is what has been set then
  filled : (about : K) (s : State (Option N) (View K N)) (so : Ruled tells place home about s) (id m : ℕ) (v w : View K N) (x : Option N) (was note : N) → m < 64 → m < length s.homes → get_elem? s.views id ≡ some v
      → Contains v.moving (m, x) → Knows tells was note → place note ≡ home about → Grows (so.phases m) (full was note) → w.about ≡ v.about → w.held ≡ v.held → w.moving ≡ []
      → Records (changed so.phases m (full was note)) w.set → w.met ≡ v.met
      → Ruled tells place home about record { words = set s.words m 1; homes = set s.homes m (some (Some note)); views = set s.views id w }
  filled about s so id m v w x was note lt within at moves knows here grows a h q st mt =
      let fit = so.seats id v at in
      let t = fit.moving m x moves in
      let p : Phase N = full was note in
      framed tells place home about s so id m 1 p (set s.homes m (some (Some note))) w lt refl
      (set_here s.homes m (some (Some note)) within, knows, here) (λ k ne. set_else s.homes m k (some (Some note)) ne) (subst (Owned id) (sym t.1) refl) grows record {
        key = λ k e. fit.key k (sym a ∙ e);
        held = subst (Claims tells (changed so.phases m p) (idle id)) (sym h) (claims_away so.phases m p tells (idle id) v.held (λ b y. apart (so.phases m) (busy id t.0) (idle id b) t.1 y (λ e. omega arith)) fit.held);
        moving = subst (Claims tells (changed so.phases m p) (busy id)) (sym q) (claims_none so.phases m p tells (busy id));
        set = st;
        met = subst (Records (changed so.phases m p)) (sym mt) (records_grow so.phases m p v.met grows fit.met);
      }

  pub set_allowed : (about : K) (slots id m : ℕ) (v : View K N) (note : N) → m < 64 → m < slots → Contains v.moving (m, None) → place note ≡ home about
      → Allows (Ruled tells place home about) slots id (v, (m, Some note) ∷ []) m (λ _. 1) (λ _. marked (step slots m 1 0 none) (v, (m, Some note) ∷ []) 1)
  set_allowed about slots id m v note lt within moves here s so deep at fits =
      let fit = so.seats id v at in
      let t = fit.moving m None moves in
      let unset : set_by (so.phases m) ≡ None = ap set_by t.1 ∙ no_grip tells t.0 t.2 in
      let grows : Grows (so.phases m) (full note note) = λ a h. let clash : None ≡ Some a = sym unset ∙ h in cc in (
        record v { moving = []; set = (m, note) ∷ v.set },
        gives,
        tt,
        filled about s so id m v record v { moving = []; set = (m, note) ∷ v.set } None note note lt (omega arith) at moves (λ fact told. told) here grows refl refl refl
            (records_more so.phases m (full note note) v.set note refl (records_grow so.phases m (full note note) v.set grows fit.set)) refl,
        refl,
      )

  pub put_allowed : (about : K) (slots id m : ℕ) (v : View K N) (old note : N) → m < 64 → m < slots → Contains v.moving (m, Some old) → Knows tells old note → place note ≡ home about
      → Allows (Ruled tells place home about) slots id (v, (m, Some note) ∷ []) m (λ _. 1) (λ _. replaced (step slots m 1 0 none) (v, (m, Some note) ∷ []) 1)
  put_allowed about slots id m v old note lt within moves more here s so deep at fits =
      let fit = so.seats id v at in
      let t = fit.moving m (Some old) moves in
      let g = a_grip tells t.0 old t.2 in
      let grows : Grows (so.phases m) (full g.0 note) = λ a h. sym (ap set_by t.1 ∙ g.1) ∙ h in (
        record v { moving = [] },
        gives,
        tt,
        filled about s so id m v record v { moving = [] } (Some old) g.0 note lt (omega arith) at moves (λ fact told. more fact (g.2 fact told)) here grows refl refl refl
            (records_grow so.phases m (full g.0 note) v.set grows fit.set) refl,
        refl,
      )

  agrees : (about : K) (phases : ℕ → Phase N) (i : ℕ) (v : View K N) → Fits tells place home about phases i v → Agrees v
  agrees about phases i v fit m a b first second = let e : Some a ≡ Some b = sym (recorded a first) ∙ recorded b second in cc
    where
      recorded : (x : N) → Contains (v.set ++ v.met) (m, x) → set_by (phases m) ≡ Some x
      recorded x h = ⊎_elim (fit.set m x) (fit.met m x) (Contains-append_cases v.set v.met (m, x) h)

  pub tell_allowed : (about : K) (slots id m : ℕ) (me : Me (Option N) (View K N)) → Allows (Ruled tells place home about) slots id me m (λ n. n) (agreed (step slots m 0 0 none) me)
  tell_allowed about slots id m me s so deep at fits = (
    me.0,
    keeps,
    tt,
    unchanged about s id m (get_or s.words m 0) me.0 at refl so,
    (refl, agrees about so.phases id me.0 (so.seats id me.0 at)),
  )

  -- the same of the seat as a call has it
  pub take_at : (about : K) (slots id m : ℕ) (me : Me (Option N) (View K N)) → m < 64 → me.1 ≡ []
      → Allows (Ruled tells place home about) slots id me m (λ n. either (n == 1) 2 n) (took tells place home (step slots m 1 2 none) me)
  take_at about slots id m me lt e = subst (λ (l : List (ℕ × Option N)). Allows (Ruled tells place home about) slots id (me.0, l) m (λ n. either (n == 1) 2 n) (took tells place home (step slots m 1 2 none) (me.0, l)))
      (sym e) (take_allowed about slots id m me.0 lt)

  pub empty_at : (about : K) (slots id m : ℕ) (me : Me (Option N) (View K N)) (x : Option N) → m < 64 → m < slots → me.1 ≡ (m, None) ∷ [] → me.0.moving ≡ (m, x) ∷ []
      → Allows (Ruled tells place home about) slots id me m (λ _. 0) (λ _. emptied (step slots m 0 0 none) me 0)
  empty_at about slots id m me x lt within e moves = subst (λ (l : List (ℕ × Option N)). Allows (Ruled tells place home about) slots id (me.0, l) m (λ _. 0) (λ _. emptied (step slots m 0 0 none) (me.0, l) 0))
      (sym e) (empty_allowed about slots id m me.0 x lt within moves)

  pub open_at : (about : K) (slots id m : ℕ) (me : Me (Option N) (View K N)) (x : Option N) → m < 64 → me.1 ≡ [] → Contains me.0.held (m, x)
      → Allows (Ruled tells place home about) slots id me m (λ _. 2) (λ _. entered (step slots m 2 0 none) me 2)
  open_at about slots id m me x lt e held = subst (λ (l : List (ℕ × Option N)). Allows (Ruled tells place home about) slots id (me.0, l) m (λ _. 2) (λ _. entered (step slots m 2 0 none) (me.0, l) 2))
      (sym e) (open_allowed about slots id m me.0 x lt held)

  moves : (m : ℕ) (u v : View K N) (x : Option N) → v ≡ opened m u → Contains u.held (m, x) → Contains v.moving (m, x)
  moves m u v x e held = subst (λ (w : View K N). Contains w.moving (m, x)) (sym e) (to_filter (λ (r : ℕ × Option N). r.0 == m) u.held (m, x) (eq-eqb m m refl) held)

  pub set_at : (about : K) (slots id m : ℕ) (u : View K N) (me : Me (Option N) (View K N)) (note : N) → m < 64 → m < slots → me.0 ≡ opened m u → me.1 ≡ (m, Some note) ∷ [] → Contains u.held (m, None) → place note ≡ home about
      → Allows (Ruled tells place home about) slots id me m (λ _. 1) (λ _. marked (step slots m 1 0 none) me 1)
  set_at about slots id m u me note lt within v e held here = subst (λ (l : List (ℕ × Option N)). Allows (Ruled tells place home about) slots id (me.0, l) m (λ _. 1) (λ _. marked (step slots m 1 0 none) (me.0, l) 1))
      (sym e) (set_allowed about slots id m me.0 note lt within (moves m u me.0 None v held) here)

  pub put_at : (about : K) (slots id m : ℕ) (u : View K N) (me : Me (Option N) (View K N)) (old note : N) → m < 64 → m < slots → me.0 ≡ opened m u → me.1 ≡ (m, Some note) ∷ [] → Contains u.held (m, Some old) → Knows tells old note → place note ≡ home about
      → Allows (Ruled tells place home about) slots id me m (λ _. 1) (λ _. replaced (step slots m 1 0 none) me 1)
  put_at about slots id m u me old note lt within v e held more here = subst (λ (l : List (ℕ × Option N)). Allows (Ruled tells place home about) slots id (me.0, l) m (λ _. 1) (λ _. replaced (step slots m 1 0 none) (me.0, l) 1))
      (sym e) (put_allowed about slots id m me.0 old note lt within (moves m u me.0 (Some old) v held) more here)
