-- A worker goes on by one line.
use Rattle.std.proofs.Common.{◌≡◌, ◌≢◌, ℕ, ◌+◌, ◌<◌, ◌≤◌, ◌==◌, zero, suc, Bool, true, false, cond, ◌||◌, ⊎_elim, List, [], ◌∷◌, ◌++◌, map, take, length, sym, refl, ap, ◌∙◌, subst, arith, eq-eqb, ne_eqb, Contains}
use Rattle.std.specs.Prelude.{Result, Ok, Err, IfOk, IsOk}
use Rattle.rock_io.specs.declared.fault.Memory.{Memory}
use Rattle.std.specs.List.{list_any}
use Rattle.std.proofs.lemmas.List.{take_more, append-nil}
use Rattle.std.proofs.lemmas.List.Elements.{Contains-push_cases}
use Rattle.script_text.specs.declared.line.Line.{Line}
use Rattle.script_text.specs.declared.answer.Answer.{Answer}
use Rattle.script_text.specs.declared.shelf.Shelf.{Ghosts}
use Rattle.marks.specs.declared.places.Marks.{Marks}
use Rattle.marks.specs.declared.seat.MarkSeat.{MarkSeat}
use Rattle.marks.specs.declared.view.View.{View}
use Rattle.marks.specs.Seats.{view, IsSeatOf}
use Rattle.marks.proofs.Lists.{none_in}
use Rattle.worker_pool.specs.declared.notes.Of.{Of}
use Rattle.worker_pool.specs.Courses.{At, sets, Stage, lines_from, lines_of, Linked, Step, Kept}
use Rattle.worker_pool.specs.Knowing.{HasMarks, Extends, Holds, Told, IsTold, Answered, Ready, Served}

either_false : (a b : Bool) → (a || b) ≡ false → (a ≡ false) × (b ≡ false)
either_false true b e = let clash : true ≡ false = e in cc
either_false false b e = (refl, e)

both_false : (a b : Bool) → a ≡ false → b ≡ false → (a || b) ≡ false
both_false true b e f = e
both_false false b e f = f

-- what no line of a front sets, none of a shorter front sets
pub any_prefix : (p : Line → Bool) (xs : List Line) (j k : ℕ) → j ≤ k → list_any p (take k xs) ≡ false → list_any p (take j xs) ≡ false
any_prefix p [] zero k le e = refl
any_prefix p [] (suc j) k le e = refl
any_prefix p (x ∷ xs) zero k le e = refl
any_prefix p (x ∷ xs) (suc j) zero le e = absurd (omega arith)
any_prefix p (x ∷ xs) (suc j) (suc k) le e =
    let f = either_false (p x) (list_any p (take k xs)) e in
    both_false (p x) (list_any p (take j xs)) f.0 (any_prefix p xs j k (omega arith) f.1)

pushed : {X : Type 0} (b : Bool) (x : X) (us vs cs : List X) → vs ≡ us ++ cs → cond b (x ∷ vs) vs ≡ cond b (x ∷ us) us ++ cs
pushed true x us vs cs e = ap (λ (l : List _). x ∷ l) e
pushed false x us vs cs e = e

lines_push : (w n : ℕ) (xs : List Line) (line : Line) → lines_from w n (xs ++ line ∷ []) ≡ lines_from w n xs ++ cond (line.worker == w) ((n + length xs, line) ∷ []) []
lines_push w n [] line = ap (λ (k : ℕ). cond (line.worker == w) ((k, line) ∷ []) []) (let e : n ≡ n + 0 = omega arith in e)
lines_push w n (x ∷ xs) line = pushed (x.worker == w) (n, x) (lines_from w (n + 1) xs) (lines_from w (n + 1) (xs ++ line ∷ [])) (cond (line.worker == w) ((n + length (x ∷ xs), line) ∷ []) [])
    (lines_push w (n + 1) xs line ∙ ap (λ (k : ℕ). lines_from w (n + 1) xs ++ cond (line.worker == w) ((k, line) ∷ []) []) (let e : n + 1 + length xs ≡ n + length (x ∷ xs) = omega arith in e))

next_lines : (lines : List Line) (n : ℕ) (line : Line) → At lines n line → take (n + 1) lines ≡ take n lines ++ line ∷ []
next_lines lines n line at = take_more lines n line at.0 ∙ ap (λ (x : Line). take n lines ++ x ∷ []) at.1

counted : (lines : List Line) (n : ℕ) → n < length lines → length (take n lines) ≡ n
counted [] n lt = absurd (omega arith)
counted (x ∷ xs) zero lt = refl
counted (x ∷ xs) (suc n) lt = ap suc (counted xs n (omega arith))

pub lines_next : (lines : List Line) (w n : ℕ) (line : Line) → At lines n line → lines_of w (take (n + 1) lines) ≡ lines_of w (take n lines) ++ cond (line.worker == w) ((n, line) ∷ []) []
lines_next lines w n line at = ap (lines_of w) (next_lines lines n line at) ∙ (lines_push w 0 (take n lines) line ∙ ap (λ (k : ℕ). lines_of w (take n lines) ++ cond (line.worker == w) ((k, line) ∷ []) []) (let long = counted lines n at.0 in let e : 0 + length (take n lines) ≡ n = omega arith in e))

pub map_push : {X Y : Type 0} (f : X → Y) (xs : List X) (x : X) → map f (xs ++ x ∷ []) ≡ map f xs ++ f x ∷ []
map_push f [] x = refl
map_push f (y ∷ ys) x = ap (λ (l : List _). f y ∷ l) (map_push f ys x)

pub linked_push : {H : Type 0} (start mid : H) (stages : List (Stage H)) (s : Stage H) → Linked start stages mid → s.before ≡ mid → Linked start (stages ++ s ∷ []) s.after
linked_push start mid [] s l e = (e ∙ l, refl)
linked_push start mid (t ∷ ts) s l e = (l.0, linked_push t.after mid ts s l.1 e)

module _ {H N : Type 0} (g : Ghosts H N) where
  pub told_more : (v w : View H N) (line : Line) (b : H) (a : Answer) (c : H) → Extends v w → Told g v line b a c → Told g w line b a c
  told_more v w line b a c more t = record {
    set = λ m e. let s = t.set m e in record { note = s.note; set = more.set (m, s.note) s.set; knows = s.knows };
    met = λ m e q. let s = t.met m e q in record { was = s.was; met = more.met (m, s.was) s.met; knows = s.knows };
  }

  pub kept_on : (a b c : H) → Kept g a b → Kept g b c → Kept g a c
  kept_on a b c x y = record {
    home = y.home ∙ x.home;
    name = y.name ∙ x.name;
    takes = λ line. ((λ t. (x.takes line).0 ((y.takes line).0 t)), (λ t. (y.takes line).1 ((x.takes line).1 t)));
    knows = λ fact k. y.knows fact (x.knows fact k);
  }

  pub served_skip : (lines : List Line) (w : ℕ) (start : H) (n : ℕ) (line : Line) (shelf : H) (answers : List (ℕ × Answer)) (v : View H N) → At lines n line → line.worker ≢ w
      → Served g lines w start n shelf answers v → Served g lines w start (n + 1) shelf answers v
  served_skip lines w start n line shelf answers v at other s = record {
    stages = s.stages;
    each = s.each ∙ sym (lines_next lines w n line at ∙ (ap (λ (b : Bool). lines_of w (take n lines) ++ cond b ((n, line) ∷ []) []) (ne_eqb line.worker w other) ∙ append-nil (lines_of w (take n lines))));
    linked = s.linked;
    steps = s.steps;
    answers_are = s.answers_are;
    told = s.told;
  }

  pub served_more : (lines : List Line) (w : ℕ) (start : H) (n : ℕ) (line : Line) (shelf after : H) (answers : List (ℕ × Answer)) (a : Answer) (v u : View H N) → At lines n line → line.worker ≡ w
      → Extends v u → Answered g (take n lines) line shelf a after u → Served g lines w start n shelf answers v → Served g lines w start (n + 1) after (answers ++ (line.number, a) ∷ []) u
  served_more lines w start n line shelf after answers a v u at mine more is s =
      let next : Stage H = record { place = n; line = line; before = shelf; answer = a; after = after } in record {
        stages = s.stages ++ next ∷ [];
        each = map_push (λ (t : Stage H). (t.place, t.line)) s.stages next
            ∙ (ap (λ (l : List (ℕ × Line)). l ++ (n, line) ∷ []) s.each ∙ sym (lines_next lines w n line at ∙ ap (λ (b : Bool). lines_of w (take n lines) ++ cond b ((n, line) ∷ []) []) (eq-eqb line.worker w mine)));
        linked = linked_push start shelf s.stages next s.linked refl;
        steps = λ t h. ⊎_elim (λ (i : Contains s.stages t). s.steps t i) (λ (e : next ≡ t). subst (Step g lines) e is.step) (Contains-push_cases s.stages next t h);
        answers_are = ap (λ (l : List (ℕ × Answer)). l ++ (line.number, a) ∷ []) s.answers_are ∙ sym (map_push (λ (t : Stage H). (t.line.number, t.answer)) s.stages next);
        told = λ t h. ⊎_elim (λ (i : Contains s.stages t). told_more v u t.line t.before t.answer t.after more (s.told t i)) (λ (e : next ≡ t). subst (IsTold g u) e is.told) (Contains-push_cases s.stages next t h);
      }

  pub ready_next : (marks : Marks N (Of H) H) (lines : List Line) (w n : ℕ) (line : Line) (shelf after : H) (seat then : MarkSeat N (Of H) H) → HasMarks lines → At lines n line
      → IsSeatOf marks then → Kept g shelf after → Holds (take n lines ++ line ∷ []) (view seat) (view then) → Ready g marks lines w n shelf seat → Ready g marks lines w (n + 1) after then
  ready_next marks lines w n line shelf after seat then has at own kept holds r = record {
    own = own;
    home = kept.home ∙ r.home;
    takes = λ k other here is q. (kept.takes other).1 (r.takes k other here is q);
    may = λ k m other here le is q. holds m (subst (λ (l : List Line). list_any (sets m) l ≡ false) (next_lines lines n line at) (any_prefix (sets m) lines (n + 1) k le ((has.set k m other here q).1))) (r.may k m other here (omega arith) is q);
  }

  pub ready_skip : (marks : Marks N (Of H) H) (lines : List Line) (w n : ℕ) (shelf : H) (seat : MarkSeat N (Of H) H) → Ready g marks lines w n shelf seat → Ready g marks lines w (n + 1) shelf seat
  ready_skip marks lines w n shelf seat r = record {
    own = r.own;
    home = r.home;
    takes = r.takes;
    may = λ k m other here le is q. r.may k m other here (omega arith) is q;
  }

  -- a line was answered, and the answer kept
  pub served_kept : (lines : List Line) (w : ℕ) (start : H) (n : ℕ) (line : Line) (shelf after : H) (earlier : List Line) (answers kept : List (ℕ × Answer)) (answer : Result Answer Memory) (v u : View H N) → At lines n line → line.worker ≡ w
      → Extends v u → earlier ≡ take n lines → IfOk answer (λ a. Answered g earlier line shelf a after u) → IfOk answer (λ a. kept ≡ answers ++ (line.number, a) ∷ []) × IsOk answer
      → Served g lines w start n shelf answers v → Served g lines w start (n + 1) after kept u
  served_kept lines w start n line shelf after earlier answers kept (Ok a) v u at mine more e is all s = subst (λ (l : List (ℕ × Answer)). Served g lines w start (n + 1) after l u) (sym all.0)
      (served_more lines w start n line shelf after answers a v u at mine more (subst (λ (l : List Line). Answered g l line shelf a after u) e is) s)
  served_kept lines w start n line shelf after earlier answers kept (Err x) v u at mine more e is all s = let clash : false ≡ true = all.1 in cc

  pub kept_none : (a : H) → Kept g a a
  kept_none a = record { home = refl; name = refl; takes = λ line. ((λ t. t), (λ t. t)); knows = λ fact k. k }

  none_taken : (w : ℕ) (lines : List Line) → [] ≡ lines_of w (take 0 lines)
  none_taken w [] = refl
  none_taken w (line ∷ lines) = refl

  pub served_none : (lines : List Line) (w : ℕ) (start : H) (answers : List (ℕ × Answer)) (v : View H N) → answers ≡ [] → Served g lines w start 0 start answers v
  served_none lines w start answers v e = record {
    stages = [];
    each = none_taken w lines;
    linked = refl;
    steps = λ s h. absurd (none_in s h);
    answers_are = e;
    told = λ s h. absurd (none_in s h);
  }
