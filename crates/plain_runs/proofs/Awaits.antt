-- In a script that was read the lines before one are those of lesser numbers: so `await` is answered as in the plain store.
use Rattle.std.proofs.Common.{Bool, Contains, List, [], ap, arith, cond, false, length, map, refl, subst, suc, sym, take, true, zero, ⊎_elim, ◌+◌, ◌<◌, ◌∙◌, ◌∷◌, ◌≡◌, ◌≤◌, ◌==◌, ℕ}
use Rattle.std.specs.Prelude.{nat_lt, ◌&&◌, ◌||◌}
use Rattle.std.specs.List.{list_any}
use Rattle.std.proofs.lemmas.Bool.{eqb-true, le-ltb, lt-ltb}
use Rattle.script_text.specs.declared.line.Line.{Line}
use Rattle.script_text.specs.declared.request.Request.{Request}
use Rattle.script_text.specs.declared.request.Request.TheVariants.{Mark}
use Rattle.core_model.proofs.Lists.{cons_contains, contains_none}
use Rattle.core_model.proofs.SlotsOpened.{map_contains}
use Rattle.plain_model.specs.Serving.{is_set_before, lines_for, sets as sets_in}
use Rattle.worker_pool.specs.Courses.{Stage, lines_from, lines_of, sets, sets_by}
use Rattle.plain_runs.specs.Runs.{Numbered}

-- whether a request sets a mark is said twice
same_sets : (mark : ℕ) (request : Request) → sets_in mark request ≡ sets_by mark request
same_sets mark (Mark other) = refl
same_sets mark _ = refl

and_true : (b : Bool) → b && true ≡ b
and_true true = refl
and_true false = refl

and_false : (b : Bool) → b && false ≡ false
and_false true = refl
and_false false = refl

abbrev sets_below : ℕ → ℕ → Line → Bool
sets_below mark number line = sets_in mark line.request && nat_lt line.number number

one_below : (mark number : ℕ) (line : Line) → line.number < number → sets_below mark number line ≡ sets mark line
one_below mark number line lt = ap (λ (b : Bool). sets_in mark line.request && b) (lt-ltb line.number number lt) ∙ and_true (sets_in mark line.request) ∙ same_sets mark line.request

none_above : (mark number : ℕ) (line : Line) → number ≤ line.number → sets_below mark number line ≡ false
none_above mark number line le = ap (λ (b : Bool). sets_in mark line.request && b) (le-ltb line.number number le) ∙ and_false (sets_in mark line.request)

both_or : (a b c d : Bool) → a ≡ c → b ≡ d → (a || b) ≡ (c || d)
both_or a b c d e f = ap (λ (x : Bool). x || b) e ∙ ap (λ (x : Bool). c || x) f

none_set : (mark n number : ℕ) (lines : List Line) → Numbered n lines → number ≤ n + 1 → list_any (sets_below mark number) lines ≡ false
none_set mark n number [] h le = refl
none_set mark n number (line ∷ lines) h le =
    both_or (sets_below mark number line) (list_any (sets_below mark number) lines) false false (none_above mark number line (let z = h.0 in omega arith)) (none_set mark (n + 1) number lines h.1 (omega arith))

set_before : (mark n place : ℕ) (lines : List Line) → Numbered n lines → place < length lines → list_any (sets_below mark (n + place + 1)) lines ≡ list_any (sets mark) (take place lines)
set_before mark n place [] h lt = absurd (omega arith)
set_before mark n zero (line ∷ lines) h lt = none_set mark n (n + 0 + 1) (line ∷ lines) h (omega arith)
set_before mark n (suc place) (line ∷ lines) h lt =
    let next : n + suc place + 1 ≡ n + 1 + place + 1 = omega arith in
    both_or (sets_below mark (n + suc place + 1) line) (list_any (sets_below mark (n + suc place + 1)) lines) (sets mark line) (list_any (sets mark) (take place lines))
    (one_below mark (n + suc place + 1) line (let z = h.0 in omega arith))
    (ap (λ (m : ℕ). list_any (sets_below mark m) lines) next ∙ set_before mark (n + 1) place lines h.1 (omega arith))

-- a line of a worker with its place in the script
pub record IsOwnLine (w n : ℕ) (lines : List Line) (place : ℕ) (line : Line) : Type 0 where
  pub ahead : ℕ
  pub place_is : place ≡ n + ahead
  pub within : ahead < length lines
  pub number : line.number ≡ n + ahead + 1
  pub among : Contains lines line
  pub mine : line.worker ≡ w

own_here : (w n : ℕ) (l : Line) (lines : List Line) (place : ℕ) (line : Line) → l.number ≡ n + 1 → l.worker ≡ w → ◌≡◌ {A = ℕ × Line} (n, l) (place, line) → IsOwnLine w n (l ∷ lines) place line
own_here w n l lines place line number mine e =
    let here : l ≡ line = ap (λ (x : ℕ × Line). x.1) e in
    let at : n ≡ place = ap (λ (x : ℕ × Line). x.0) e in
    let same = ap (λ (x : Line). x.number) here in
    record {
      ahead = 0;
      place_is = omega arith;
      within = omega arith;
      number = omega arith;
      among = (0, omega arith, here);
      mine = ap (λ (x : Line). x.worker) (sym here) ∙ mine;
    }

own_behind : (w n : ℕ) (l : Line) (lines : List Line) (place : ℕ) (line : Line) → IsOwnLine w (n + 1) lines place line → IsOwnLine w n (l ∷ lines) place line
own_behind w n l lines place line h =
    let at = h.place_is in
    let less = h.within in
    let number = h.number in
    record {
      ahead = h.ahead + 1;
      place_is = omega arith;
      within = omega arith;
      number = omega arith;
      among = (suc h.among.0, (let z = h.among.1 in omega arith), h.among.2);
      mine = h.mine;
    }

own_line : (w n : ℕ) (lines : List Line) (place : ℕ) (line : Line) → Numbered n lines → Contains (lines_from w n lines) (place, line) → IsOwnLine w n lines place line
own_line w n [] place line numbers h = absurd (contains_none (place, line) h)
own_line w n (l ∷ lines) place line numbers h = by_test (l.worker == w) refl h (own_line w (n + 1) lines place line numbers.1)
  where
    by_test : (b : Bool) → b ≡ (l.worker == w) → Contains (cond b ((n, l) ∷ lines_from w (n + 1) lines) (lines_from w (n + 1) lines)) (place, line)
        → (Contains (lines_from w (n + 1) lines) (place, line) → IsOwnLine w (n + 1) lines place line) → IsOwnLine w n (l ∷ lines) place line
    by_test true e g rest = ⊎_elim
        (λ (here : ◌≡◌ {A = ℕ × Line} (n, l) (place, line)). own_here w n l lines place line numbers.0 (eqb-true l.worker w (sym e)) here)
        (λ (behind : Contains (lines_from w (n + 1) lines) (place, line)). own_behind w n l lines place line (rest behind))
        (cons_contains (n, l) (place, line) (lines_from w (n + 1) lines) g)
    by_test false e g rest = own_behind w n l lines place line (rest g)

-- a line that a worker served is one of the script, and its own
pub served_line : {H : Type 0} (w : ℕ) (script : List Line) (stages : List (Stage H)) → Numbered 0 script → map (λ x. (x.place, x.line)) stages ≡ lines_of w script
    → (x : Stage H) → Contains stages x → IsOwnLine w 0 script x.place x.line
served_line {H} w script stages numbers each x among = own_line w 0 script x.place x.line numbers
    (subst (λ (ps : List (ℕ × Line)). Contains ps (x.place, x.line)) each (map_contains (λ (y : Stage H). (y.place, y.line)) stages x among))

-- and `await` is answered of it as in the plain store
pub awaits_alike : (script : List Line) (mark w place : ℕ) (line : Line) → Numbered 0 script → IsOwnLine w 0 script place line → list_any (sets mark) (take place script) ≡ is_set_before script line.number mark
awaits_alike script mark w place line numbers own =
    let at = own.place_is in
    let number = own.number in
    let same : place ≡ own.ahead = omega arith in
    let is : 0 + own.ahead + 1 ≡ line.number = omega arith in
    ap (λ (k : ℕ). list_any (sets mark) (take k script)) same
    ∙ sym (set_before mark 0 own.ahead script numbers own.within)
    ∙ ap (λ (m : ℕ). list_any (sets_below mark m) script) is

-- the lines of a worker without their places
lines_alone : (w n : ℕ) (lines : List Line) → map (λ (p : ℕ × Line). p.1) (lines_from w n lines) ≡ lines_for w lines
lines_alone w n [] = refl
lines_alone w n (l ∷ lines) = by_test (l.worker == w) (lines_alone w (n + 1) lines)
  where
    by_test : (b : Bool) → map (λ (p : ℕ × Line). p.1) (lines_from w (n + 1) lines) ≡ lines_for w lines
        → map (λ (p : ℕ × Line). p.1) (cond b ((n, l) ∷ lines_from w (n + 1) lines) (lines_from w (n + 1) lines)) ≡ cond b (l ∷ lines_for w lines) (lines_for w lines)
    by_test true h = ap (λ (ls : List Line). l ∷ ls) h
    by_test false h = h

both : {A B D : Type 0} (f : A → B) (g : B → D) (xs : List A) → map g (map f xs) ≡ map (λ x. g (f x)) xs
both f g [] = refl
both f g (x ∷ xs) = ap (λ ys. g (f x) ∷ ys) (both f g xs)

-- the lines that a worker served are its lines of the script
pub served_lines : {H : Type 0} (w : ℕ) (script : List Line) (stages : List (Stage H)) → map (λ x. (x.place, x.line)) stages ≡ lines_of w script → map (λ x. x.line) stages ≡ lines_for w script
served_lines {H} w script stages each =
    sym (both (λ (x : Stage H). (x.place, x.line)) (λ (p : ℕ × Line). p.1) stages) ∙ ap (map (λ (p : ℕ × Line). p.1)) each ∙ lines_alone w 0 script
