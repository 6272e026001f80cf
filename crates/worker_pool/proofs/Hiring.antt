-- Workers are hired, and released.
use Rattle.std.proofs.Common.{◌≡◌, ◌⊎◌, inl, inr, ⊎_elim, ℕ, ◌+◌, ◌<◌, Bool, true, false, ◌&&◌, not, List, [], ◌∷◌, ◌++◌, map, take, drop, length, sym, refl, ap, ◌∙◌, subst, arith, Contains}
use Rattle.std.proofs.lemmas.List.Elements.{Contains-push, Contains-push_cases, Contains-append_left, Contains-append_right}
use Rattle.std.proofs.Common.{Global}
use Rattle.std.specs.Prelude.{Vec, slice_index_or}
use Rattle.marks.specs.declared.seat.MarkSeat.{MarkSeat}
use Rattle.marks.specs.declared.view.View.{View}
use Rattle.marks.specs.Seats.{view}
use Rattle.marks.specs.Views.{Agrees, joined}
use Rattle.script_text.specs.declared.answer.Answer.{Answer}
use Rattle.marks.proofs.Lists.{none_in}
use Rattle.worker_pool.specs.declared.notes.Of.{Of}
use Rattle.worker_pool.specs.declared.worker.Worker.{Worker}
use Rattle.worker_pool.specs.Courses.{At}
use Rattle.worker_pool.specs.Knowing.{Extends}
use Rattle.worker_pool.specs.Crews.{Hired, Gathered}
use Rattle.worker_pool.proofs.Places.{at_place, take_none, take_whole, length_push, push_cases, first_left, next_left, front_more, map_push}

either_off : (a b : Bool) → (a && not b) ≡ false → (a ≡ false) ⊎ (b ≡ true)
either_off false b e = inl refl
either_off true true e = inr refl
either_off true false e = let clash : true ≡ false = e in cc

both_true : (a b : Bool) → (a && not b) ≡ true → (a ≡ true) × (b ≡ false)
both_true true false e = (refl, refl)
both_true true true e = let clash : false ≡ true = e in cc
both_true false b e = let clash : false ≡ true = e in cc

module _ {H N : Type 0} where
  -- workers for the places before n
  pub record AreHiredTo (n : ℕ) (shelves left : List H) (seats others : List (MarkSeat N (Of H) H)) (workers : List (Worker H N)) : Type 0 where
    pub count : length workers ≡ n
    pub shelves_left : left ≡ drop n shelves
    pub seats_left : others ≡ drop n seats
    pub each : (w : ℕ) (x : Worker H N) → At workers w x → Hired shelves seats w x

  pub hired_none : (shelves : List H) (seats : List (MarkSeat N (Of H) H)) (workers : List (Worker H N)) → workers ≡ [] → AreHiredTo 0 shelves shelves seats seats workers
  hired_none shelves seats workers e = record {
    count = ap length e;
    shelves_left = refl;
    seats_left = refl;
    each = λ w x at. absurd (let none : length workers ≡ 0 = ap length e in let lt = at.0 in omega arith);
  }

  pub hired_more : (n : ℕ) (shelves left then : List H) (seats others rest : List (MarkSeat N (Of H) H)) (workers : List (Worker H N)) (x : Worker H N)
      → n < length shelves → n < length seats → x.number ≡ n + 1 → x.shelf ≡ slice_index_or left 0 x.shelf → x.seat ≡ slice_index_or others 0 x.seat → x.answers.items ≡ [] → x.is_stopped ≡ false
      → then ≡ take 0 left ++ drop 1 left → rest ≡ take 0 others ++ drop 1 others → AreHiredTo n shelves left seats others workers → AreHiredTo (n + 1) shelves then seats rest (workers ++ x ∷ [])
  hired_more n shelves left then seats others rest workers x few fewer number shelf seat fresh goes e f h = record {
    count = length_push workers x ∙ ap (λ (k : ℕ). k + 1) h.count;
    shelves_left = next_left shelves left then n h.shelves_left e;
    seats_left = next_left seats others rest n h.seats_left f;
    each = λ w y at. ⊎_elim (λ (old : At workers w y). h.each w y old)
        (λ (new : (w ≡ length workers) × (x ≡ y)).
        let here : n ≡ w = sym (new.0 ∙ h.count) in
        subst (λ (z : Worker H N). Hired shelves seats w z) new.1 (record {
          number = number ∙ ap (λ (k : ℕ). k + 1) here;
          shelf = at_place shelves n w x.shelf here (first_left shelves left n x.shelf h.shelves_left few shelf);
          seat = at_place seats n w x.seat here (first_left seats others n x.seat h.seats_left fewer seat);
          fresh = fresh;
          goes = goes;
        }))
        (push_cases workers x y w at);
  }

  -- the first n workers gave back their shelves and their answers, and the seat was joined with theirs
  pub record Released (workers left : List (Worker H N)) (n : ℕ) (shelves : List H) (answers : List (Vec (ℕ × Answer) Global)) (went : Bool) (v : View H N) : Type 0 where
    pub rest : left ≡ drop n workers
    pub shelves_are : shelves ≡ map (λ x. x.shelf) (take n workers)
    pub answers_are : answers ≡ map (λ x. x.answers) (take n workers)
    pub all_went : went ≡ true → (x : Worker H N) → Contains (take n workers) x → x.is_stopped ≡ false
    pub some_stopped : went ≡ false → (x : Worker H N) × Contains (take n workers) x × (x.is_stopped ≡ true)
    pub extends : (x : Worker H N) → Contains (take n workers) x → Extends (view x.seat) v
    pub agrees : 0 < n → Agrees v

  left_extends : (v w : View H N) → Extends v (joined v w)
  left_extends v w = record { set = λ x h. Contains-append_left v.set w.set x h; met = λ x h. Contains-append_left v.met w.met x h }

  right_extends : (v w : View H N) → Extends w (joined v w)
  right_extends v w = record { set = λ x h. Contains-append_right v.set w.set x h; met = λ x h. Contains-append_right v.met w.met x h }

  extends_on : (u v w : View H N) → Extends u v → Extends v w → Extends u w
  extends_on u v w a b = record { set = λ x h. b.set x (a.set x h); met = λ x h. b.met x (a.met x h) }

  pub released_none : (workers : List (Worker H N)) (shelves : List H) (answers : List (Vec (ℕ × Answer) Global)) (v : View H N) → shelves ≡ [] → answers ≡ [] → Released workers workers 0 shelves answers true v
  released_none workers shelves answers v e f = record {
    rest = refl;
    shelves_are = e ∙ sym (ap (map (λ (x : Worker H N). x.shelf)) (take_none workers));
    answers_are = f ∙ sym (ap (map (λ (x : Worker H N). x.answers)) (take_none workers));
    all_went = λ go x h. absurd (none_in x (subst (λ (l : List (Worker H N)). Contains l x) (take_none workers) h));
    some_stopped = λ off. let clash : true ≡ false = off in cc;
    extends = λ x h. absurd (none_in x (subst (λ (l : List (Worker H N)). Contains l x) (take_none workers) h));
    agrees = λ lt. absurd (omega arith);
  }

  pub released_more : (workers left rest : List (Worker H N)) (n : ℕ) (x : Worker H N) (shelves then : List H) (answers others : List (Vec (ℕ × Answer) Global)) (went on : Bool) (v u : View H N)
      → n < length workers → x ≡ slice_index_or left 0 x → rest ≡ take 0 left ++ drop 1 left → then ≡ shelves ++ x.shelf ∷ [] → others ≡ answers ++ x.answers ∷ [] → on ≡ (went && not x.is_stopped)
      → u ≡ joined v (view x.seat) → Agrees u → Released workers left n shelves answers went v → Released workers rest (n + 1) then others on u
  released_more workers left rest n x shelves then answers others went on v u few is e f h q w agrees r =
      let at : At workers n x = first_left workers left n x r.rest few is in
      let more : take (n + 1) workers ≡ take n workers ++ x ∷ [] = front_more workers n x at in
      let known : Extends v u = subst (Extends v) (sym w) (left_extends v (view x.seat)) in
      let new : Extends (view x.seat) u = subst (Extends (view x.seat)) (sym w) (right_extends v (view x.seat)) in record {
        rest = next_left workers left rest n r.rest e;
        shelves_are = f ∙ (ap (λ (l : List H). l ++ x.shelf ∷ []) r.shelves_are ∙ sym (ap (map (λ (y : Worker H N). y.shelf)) more ∙ map_push (λ (y : Worker H N). y.shelf) (take n workers) x));
        answers_are = h ∙ (ap (λ (l : List (Vec (ℕ × Answer) Global)). l ++ x.answers ∷ []) r.answers_are ∙ sym (ap (map (λ (y : Worker H N). y.answers)) more ∙ map_push (λ (y : Worker H N). y.answers) (take n workers) x));
        all_went = λ go y i. let both = both_true went x.is_stopped (sym q ∙ go) in
            ⊎_elim (λ (old : Contains (take n workers) y). r.all_went both.0 y old) (λ (same : x ≡ y). subst (λ (z : Worker H N). z.is_stopped ≡ false) same both.1)
            (Contains-push_cases (take n workers) x y (subst (λ (l : List (Worker H N)). Contains l y) more i));
        some_stopped = λ off. ⊎_elim
            (λ (was : went ≡ false). let old = r.some_stopped was in (old.0, subst (λ (l : List (Worker H N)). Contains l old.0) (sym more) (Contains-append_left (take n workers) (x ∷ []) old.0 old.1), old.2))
            (λ (stops : x.is_stopped ≡ true). (x, subst (λ (l : List (Worker H N)). Contains l x) (sym more) (Contains-push (take n workers) x), stops))
            (either_off went x.is_stopped (sym q ∙ off));
        extends = λ y i. ⊎_elim (λ (old : Contains (take n workers) y). extends_on (view y.seat) v u (r.extends y old) known) (λ (same : x ≡ y). subst (λ (z : Worker H N). Extends (view z.seat) u) same new)
            (Contains-push_cases (take n workers) x y (subst (λ (l : List (Worker H N)). Contains l y) more i));
        agrees = λ lt. agrees;
      }

  pub gathered : (workers left : List (Worker H N)) (n : ℕ) (shelves : List H) (answers : List (Vec (ℕ × Answer) Global)) (went : Bool) (v : View H N) → n ≡ length workers → 0 < n → Released workers left n shelves answers went v
      → (shelves ≡ map (λ x. x.shelf) workers) × (answers ≡ map (λ x. x.answers) workers) × (went ≡ true → (x : Worker H N) → Contains workers x → x.is_stopped ≡ false) × Gathered workers × (went ≡ false → (x : Worker H N) × Contains workers x × (x.is_stopped ≡ true))
  gathered workers left n shelves answers went v e some r =
      let all : take n workers ≡ workers = ap (λ (k : ℕ). take k workers) e ∙ take_whole workers in (
        r.shelves_are ∙ ap (map (λ (x : Worker H N). x.shelf)) all,
        r.answers_are ∙ ap (map (λ (x : Worker H N). x.answers)) all,
        (λ go x h. r.all_went go x (subst (λ (l : List (Worker H N)). Contains l x) (sym all) h)),
        record { whole = v; agrees = r.agrees some; extends = λ x h. r.extends x (subst (λ (l : List (Worker H N)). Contains l x) (sym all) h) },
        (λ off. let old = r.some_stopped off in (old.0, subst (λ (l : List (Worker H N)). Contains l old.0) all old.1, old.2)),
      )
