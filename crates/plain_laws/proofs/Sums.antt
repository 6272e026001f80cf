-- What places hold, and the sum of it.
use Rattle.std.proofs.Common.{◌≡◌, ◌⊎◌, inl, inr, ◌∙◌, ℕ, zero, suc, ◌+◌, ◌-◌, ◌*◌, ◌<◌, ◌≤◌, List, [], ◌∷◌, length, get_or, set, sum_by, refl, ap, arith, false, cond}
use Rattle.std.specs.Prelude.{Some, None, not, ◌==◌, ◌||◌, ◌/◌}
use Rattle.std.proofs.lemmas.List.Sums.{sum_by-set, sum_by-cons}
use Rattle.std.proofs.lemmas.Nat.{div-mul-add}
use Rattle.std.proofs.lemmas.Bool.Decides.{nat_tests}
use Rattle.plain_model.specs.declared.entry.Life.{Life}
use Rattle.plain_model.specs.declared.entry.Life.TheVariants.{Growing, Whole, GivenUp}
use Rattle.plain_model.specs.declared.entry.Entry.{Entry}
use Rattle.plain_model.specs.declared.entry.Place.{Place}
use Rattle.plain_model.specs.Place.{nothing}
use Rattle.plain_model.specs.Store.{published}
use Rattle.plain_model.specs.Slots.{held_by, held}

-- what an entry holds that is not whole
abbrev pub hold : ℕ → ℕ
hold zero = 0
hold (suc n) = suc (suc n)

unfinished : (n m : ℕ) → n ≡ m → cond (false || not (n == 0)) (n + 1) 0 ≡ hold m
unfinished n zero e = rw e refl
unfinished n (suc m) e =
    let t : (suc m == 0) ≡ false = grind (arith, nat_tests) in
    let k : suc m + 1 ≡ suc (suc m) = omega arith in
    rw (e, t) k

pub held_unfinished : (room : ℕ) (e : Entry) (life : Life) → e.life ≡ life → (life ≡ Growing) ⊎ (life ≡ GivenUp) → held_by room (Some e) ≡ hold (published room e.content)
held_unfinished room e Growing l h = rw l (unfinished (published room e.content) (published room e.content) refl)
held_unfinished room e GivenUp l h = rw l (unfinished (published room e.content) (published room e.content) refl)
held_unfinished room e Whole l (inl h) = cc
held_unfinished room e Whole l (inr h) = cc

pub held_whole : (room : ℕ) (e : Entry) → e.life ≡ Whole → held_by room (Some e) ≡ published room e.content + 1
held_whole room e l = rw l refl

pub hold_grows : (n : ℕ) → hold n ≤ hold (suc n)
hold_grows zero = omega arith
hold_grows (suc n) = omega arith

pub hold_le : (m n : ℕ) → m ≤ n → hold m ≤ hold n
hold_le zero n h = omega arith
hold_le (suc m) zero h = omega arith
hold_le (suc m) (suc n) h = omega arith

pub hold_whole : (n : ℕ) → hold n ≤ n + 1
hold_whole zero = omega arith
hold_whole (suc n) = omega arith

-- so many full slots, of which the last is not published yet
pub full_slots : (room filled k : ℕ) → 0 < room → filled ≡ k + 1 → published room (filled * room) ≡ k
full_slots room filled k h e =
    let split : filled * room - 1 ≡ k * room + (room - 1) = (let m : filled * room ≡ k * room + room = ap (λ (n : ℕ). n * room) e ∙ (omega arith) in omega arith) in
    let small : room - 1 < room = omega arith in
    ap (λ (n : ℕ). n / room) split ∙ div-mul-add k room (room - 1) small

pub inside : (ps : List Place) (a : ℕ) (e : Entry) → (get_or ps a nothing).entry ≡ Some e → a < length ps
inside [] a e is = let k : None ≡ Some e = is in cc
inside (x ∷ ps) zero e is = omega arith
inside (x ∷ ps) (suc a) e is = let h : a < length ps = inside ps a e is in omega arith

pub sum_set : (room : ℕ) (ps : List Place) (a : ℕ) (y : Place) (e : Entry) → (get_or ps a nothing).entry ≡ Some e
    → sum_by (held room) (set ps a y) + held room (get_or ps a nothing) ≡ sum_by (held room) ps + held room y
sum_set room ps a y e is = sum_by-set (held room) ps a y nothing (inside ps a e is)

-- where a place holds no more than before, so do all
pub sum_le : (room : ℕ) (ps : List Place) (a : ℕ) (y : Place) → held room y ≤ held room (get_or ps a nothing) → sum_by (held room) (set ps a y) ≤ sum_by (held room) ps
sum_le room [] a y h = omega arith
sum_le room (x ∷ ps) zero y h = omega (arith, sum_by-cons (held room) x ps, sum_by-cons (held room) y ps)
sum_le room (x ∷ ps) (suc a) y h = let k : sum_by (held room) (set ps a y) ≤ sum_by (held room) ps = sum_le room ps a y h in
    omega (arith, sum_by-cons (held room) x ps, sum_by-cons (held room) x (set ps a y))
