-- Seats are dealt to the workers in order.
use Rattle.std.proofs.Common.{◌≡◌, ℕ, ◌+◌, ◌<◌, None, List, [], ◌∷◌, ◌++◌, length, get_or, sym, ap, subst, arith, Bool, ◌==◌, eq-eqb, ne_eqb, Contains}
use mathlib.Core.Logic.{dite}
use native.Mathlib.Decide.{ℕ_discrete}
use Rattle.std.proofs.lemmas.List.{length-append}
use Rattle.std.proofs.lemmas.List.{get_or_append_left, get_or_push}
use Rattle.marks.specs.declared.places.Marks.{Marks}
use Rattle.marks.specs.declared.seat.MarkSeat.{MarkSeat}
use Rattle.marks.specs.declared.view.View.{View}
use Rattle.marks.specs.Views.{opening_view, dealer, dealt}
use Rattle.marks.specs.Seats.{view, IsSeatOf, Dealt, AreDealt}
use Rattle.marks.proofs.Seating.{below_in, dealt_has, dealer_has}

-- which marks the next seat gets
abbrev pub gets : List ℕ → ℕ → ℕ → Bool
gets setters worker m = get_or setters m 0 == worker

-- the first seat may still set the marks of the workers from this one on
abbrev pub HasRest : {K N : Type 0} → List ℕ → ℕ → View K N → Type 0
HasRest setters worker v = (m : ℕ) → m < 64 → worker < get_or setters m 0 → Contains v.held (m, None)

pub has_all : {K N : Type 0} (about : K) (setters : List ℕ) (v : View K N) → v ≡ opening_view about → HasRest setters 0 v
has_all about setters v e m lt some_worker = subst (λ (u : View _ _). Contains u.held (m, None)) (sym e) (below_in 64 m lt)

pub has_less : {K N : Type 0} (setters : List ℕ) (worker : ℕ) (v w : View K N) → w ≡ dealer (gets setters (worker + 1)) v → HasRest setters worker v → HasRest setters (worker + 1) w
has_less setters worker v w e has m lt more = subst (λ (u : View _ _). Contains u.held (m, None)) (sym e)
    (dealer_has (gets setters (worker + 1)) v m (ne_eqb (get_or setters m 0) (worker + 1) (λ q. omega arith)) (has m lt (omega arith)))

module _ {N T K : Type 0} (marks : Marks N T K) (setters : List ℕ) where
  pub seat_dealt : (worker : ℕ) (v : View K N) (s : MarkSeat N T K) → view s ≡ dealt (gets setters (worker + 1)) v → IsSeatOf marks s → HasRest setters worker v → Dealt marks setters (worker + 1) s
  seat_dealt worker v s e own has = record {
    own = own;
    may = λ m lt is. subst (λ (u : View K N). Contains u.held (m, None)) (sym e) (dealt_has (gets setters (worker + 1)) v m (eq-eqb (get_or setters m 0) (worker + 1) is) (has m lt (omega arith)));
    set = ap (λ (u : View K N). u.set) e;
    met = ap (λ (u : View K N). u.met) e;
  }

  pub more_dealt : (seats : List (MarkSeat N T K)) (s : MarkSeat N T K) → AreDealt marks setters seats → Dealt marks setters (length seats + 1) s → AreDealt marks setters (seats ++ s ∷ [])
  more_dealt seats s are is w d lt = dite (ℕ_discrete w (length seats))
      (λ e. subst (λ (k : ℕ). Dealt marks setters (k + 1) (get_or (seats ++ s ∷ []) w d)) (sym e) (subst (Dealt marks setters (length seats + 1)) (sym (get_or_push seats s d w (sym e))) is))
      (λ ne. let long = length-append seats (s ∷ []) in let inside : w < length seats = omega arith in subst (Dealt marks setters (w + 1)) (sym (get_or_append_left seats (s ∷ []) d w inside)) (are w d inside))

  pub none_dealt : (seats : List (MarkSeat N T K)) → seats ≡ [] → AreDealt marks setters seats
  none_dealt seats e w d lt = absurd (let none : length seats ≡ 0 = ap length e in omega arith)
