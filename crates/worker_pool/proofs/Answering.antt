-- What an answer says.
use Rattle.std.proofs.Common.{◌≡◌, ◌≢◌, ℕ, ◌==◌, Bool, true, false, not, ◌||◌, Option, Some, None, List, [], ◌∷◌, ◌++◌, sym, refl, ap, ◌∙◌, subst, eq-eqb, ne_eqb, Contains}
use Rattle.std.specs.List.{list_any, filter}
use Rattle.std.proofs.lemmas.List.Folds.{list_any-append}
use Rattle.script_text.specs.declared.line.Line.{Line}
use Rattle.script_text.specs.declared.request.Request.{Request}
use Rattle.script_text.specs.declared.request.Request.TheVariants.{Mark, Await}
use Rattle.script_text.specs.declared.answer.Answer.{Answer}
use Rattle.script_text.specs.declared.answer.Answer.TheVariants.{Marked, Met, Unmet}
use Rattle.script_text.specs.declared.shelf.Shelf.{Ghosts}
use Rattle.marks.specs.declared.view.View.{View}
use Rattle.marks.proofs.Lists.{first_in, later_in, to_filter}
use Rattle.worker_pool.specs.Courses.{sets, sets_by, IsServed, StepOf, Awaited}
use Rattle.worker_pool.specs.Knowing.{Extends, Holds, SetNote, MetNote, HasSet, HasMet, Answered}

left_false : (a b : Bool) → (a || b) ≡ false → a ≡ false
left_false true b e = e
left_false false b e = refl

right_false : (a b : Bool) → (a || b) ≡ false → b ≡ false
right_false true b e = let clash : true ≡ false = e in cc
right_false false b e = e

-- where lines and one more set no mark m, neither do those lines, nor that one
pub none_before : (m : ℕ) (lines : List Line) (line : Line) → list_any (sets m) (lines ++ line ∷ []) ≡ false → list_any (sets m) lines ≡ false
none_before m lines line e = left_false (list_any (sets m) lines) (list_any (sets m) (line ∷ [])) (sym (list_any-append (sets m) lines (line ∷ [])) ∙ e)

pub none_last : (m : ℕ) (lines : List Line) (line : Line) → list_any (sets m) (lines ++ line ∷ []) ≡ false → sets m line ≡ false
none_last m lines line e = left_false (sets m line) false (right_false (list_any (sets m) lines) (list_any (sets m) (line ∷ [])) (sym (list_any-append (sets m) lines (line ∷ [])) ∙ e))

pub is_served : (r : Request) → ((m : ℕ) → r ≡ Mark m → ⊥) → ((m : ℕ) → r ≡ Await m → ⊥) → IsServed r
is_served (Mark m) n o = n m refl
is_served (Await m) n o = o m refl
is_served _ n o = tt

module _ {H N : Type 0} where
  pub same_extends : (v : View H N) → Extends v v
  same_extends v = record { set = λ x h. h; met = λ x h. h }

kept_held : {N : Type 0} (m k : ℕ) (list : List (ℕ × Option N)) → k ≢ m → Contains list (k, None) → Contains (filter (λ (r : ℕ × Option N). not (r.0 == m)) list) (k, None)
kept_held {N} m k list ne h = to_filter (λ (r : ℕ × Option N). not (r.0 == m)) list (k, None) (ap not (ne_eqb k m ne)) h

module _ {H N : Type 0} (g : Ghosts H N) where
  plain_step : (r : Request) (earlier : List Line) (line : Line) (b : H) (a : Answer) (c : H) → IsServed r → g.went b line a c → StepOf g r earlier line b a c
  plain_step (Mark m) earlier line b a c is w = absurd is
  plain_step (Await m) earlier line b a c is w = absurd is
  plain_step _ earlier line b a c is w = w

  pub served_answer : (earlier : List Line) (line : Line) (b : H) (a : Answer) (c : H) (v : View H N) → IsServed line.request → g.went b line a c → Answered g earlier line b a c v
  served_answer earlier line b a c v is w = record {
    step = plain_step line.request earlier line b a c is w;
    told = record { set = λ m e. absurd (subst IsServed e is); met = λ m e q. absurd (subst IsServed e is) };
  }

  pub set_extends : (m : ℕ) (b c : H) (v w : View H N) → HasSet g m b c v w → Extends v w
  set_extends m b c v w h = record {
    set = λ x i. subst (λ (u : View H N). Contains u.set x) (sym h.view) (later_in (m, h.note) x v.set i);
    met = λ x i. subst (λ (u : View H N). Contains u.met x) (sym h.view) i;
  }

  pub set_holds : (m : ℕ) (earlier : List Line) (line : Line) (b c : H) (v w : View H N) → line.request ≡ Mark m → HasSet g m b c v w → Holds (earlier ++ line ∷ []) v w
  set_holds m earlier line b c v w e h k none i = subst (λ (u : View H N). Contains u.held (k, None)) (sym h.view)
      (kept_held m k v.held (λ (same : k ≡ m). let never : (m == k) ≡ false = sym (ap (sets_by k) e) ∙ none_last k earlier line none in let is : (m == k) ≡ true = eq-eqb m k (sym same) in let clash : true ≡ false = sym is ∙ never in cc) i)

  pub set_answer : (m : ℕ) (earlier : List Line) (line : Line) (b c : H) (v w : View H N) → line.request ≡ Mark m → HasSet g m b c v w → Answered g earlier line b Marked c w
  set_answer m earlier line b c v w e h = record {
    step = subst (λ (r : Request). StepOf g r earlier line b Marked c) (sym e) (refl, record { note = h.note; step = h.noted });
    told = record {
      set = λ k q. let same : m ≡ k = (let both : Mark m ≡ Mark k = sym e ∙ q in cc) in subst (λ (j : ℕ). SetNote g w j b) same
          record { note = h.note; set = subst (λ (u : View H N). Contains u.set (m, h.note)) (sym h.view) (first_in (m, h.note) v.set); knows = h.knows };
      met = λ k q z. let clash : Mark m ≡ Await k = sym e ∙ q in cc;
    };
  }

  pub met_extends : (m : ℕ) (b c : H) (v w : View H N) → HasMet g m b c v w → Extends v w
  met_extends m b c v w h = record {
    set = λ x i. subst (λ (u : View H N). Contains u.set x) (sym h.view) i;
    met = λ x i. subst (λ (u : View H N). Contains u.met x) (sym h.view) (later_in (m, h.was) x v.met i);
  }

  pub met_holds : (m : ℕ) (earlier : List Line) (line : Line) (b c : H) (v w : View H N) → list_any (sets m) earlier ≡ true → HasMet g m b c v w → Holds (earlier ++ line ∷ []) v w
  met_holds m earlier line b c v w so h k none i = subst (λ (u : View H N). Contains u.held (k, None)) (sym h.view)
      (kept_held m k ((m, Some h.meeting.note) ∷ v.held)
      (λ (same : k ≡ m). let never : list_any (sets m) earlier ≡ false = subst (λ (j : ℕ). list_any (sets j) earlier ≡ false) same (none_before k earlier line none) in let clash : true ≡ false = sym so ∙ never in cc)
      (later_in {X = ℕ × Option N} (m, Some h.meeting.note) (k, None) v.held i))

  pub met_answer : (m : ℕ) (earlier : List Line) (line : Line) (b c : H) (v w : View H N) → line.request ≡ Await m → list_any (sets m) earlier ≡ true → HasMet g m b c v w → Answered g earlier line b Met c w
  met_answer m earlier line b c v w e so h = record {
    step = subst (λ (r : Request). StepOf g r earlier line b Met c) (sym e) (subst (λ (z : Bool). Awaited g z b Met c) (sym so) (refl, h.meeting));
    told = record {
      set = λ k q. let clash : Await m ≡ Mark k = sym e ∙ q in cc;
      met = λ k q z. let same : m ≡ k = (let both : Await m ≡ Await k = sym e ∙ q in cc) in subst (λ (j : ℕ). MetNote g w j c) same
          record { was = h.was; met = subst (λ (u : View H N). Contains u.met (m, h.was)) (sym h.view) (first_in (m, h.was) v.met); knows = h.knows };
    };
  }

  pub unmet_answer : (m : ℕ) (earlier : List Line) (line : Line) (b : H) (v : View H N) → line.request ≡ Await m → list_any (sets m) earlier ≡ false → Answered g earlier line b Unmet b v
  unmet_answer m earlier line b v e never = record {
    step = subst (λ (r : Request). StepOf g r earlier line b Unmet b) (sym e) (subst (λ (z : Bool). Awaited g z b Unmet b) (sym never) (refl, refl));
    told = record {
      set = λ k q. let clash : Await m ≡ Mark k = sym e ∙ q in cc;
      met = λ k q z. let clash : Unmet ≡ Met = z in cc;
    };
  }
