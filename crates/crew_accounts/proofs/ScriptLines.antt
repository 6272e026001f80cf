-- The lines of a worker, by the script and by its course.
use Rattle.std.proofs.Common.{Bool, Contains, List, [], ap, cond, eqb-true, false, inl, inr, map, refl, subst, sym, true, ◌++◌, ◌+◌, ◌∙◌, ◌∷◌, ◌≡◌, ◌⊎◌, ℕ}
use Rattle.std.specs.Prelude.{◌==◌}
use Rattle.std.specs.List.{filter}
use Rattle.std.proofs.lemmas.List.{map-append}
use Rattle.script_text.specs.declared.answer.Answer.{Answer}
use Rattle.script_text.specs.declared.line.Line.{Line}
use Rattle.core_model.proofs.Lists.{cons_contains, contains_none}
use Rattle.core_model.proofs.SlotsOpened.{map_contains}
use Rattle.line_account.specs.Courses.{Stage as Told, lines_in}
use Rattle.line_account.specs.Scripts.{in_order as lines_of_served}
use Rattle.worker_pool.specs.Courses.{Stage, lines_from, lines_of}
use Rattle.crew_accounts.specs.Courses.{in_order}
use Rattle.crew_accounts.proofs.CrewLists.{behind, first}

-- one after the other
both : {A B D : Type 0} (f : A → B) (g : B → D) (xs : List A) → map g (map f xs) ≡ map (λ x. g (f x)) xs
both f g [] = refl
both f g (x ∷ xs) = ap (λ ys. g (f x) ∷ ys) (both f g xs)

abbrev line_at : ℕ × Line → Line
line_at p = p.1

abbrev line_told : Line × Answer → Line
line_told p = p.0

-- the lines of a worker without their places
own_lines : (w n : ℕ) (lines : List Line) → map line_at (lines_from w n lines) ≡ filter (λ l. l.worker == w) lines
own_lines w n [] = refl
own_lines w n (l ∷ lines) = by_test (l.worker == w) (own_lines w (n + 1) lines)
  where
    by_test : (b : Bool) → map line_at (lines_from w (n + 1) lines) ≡ filter (λ x. x.worker == w) lines
        → map line_at (cond b ((n, l) ∷ lines_from w (n + 1) lines) (lines_from w (n + 1) lines)) ≡ cond b (l ∷ filter (λ x. x.worker == w) lines) (filter (λ x. x.worker == w) lines)
    by_test true h = ap (λ (ls : List Line). l ∷ ls) h
    by_test false h = h

-- each is a line of the script, and the worker's own
own_line : (w n : ℕ) (lines : List Line) (place : ℕ) (line : Line) → Contains (lines_from w n lines) (place, line) → Contains lines line × (line.worker ≡ w)
own_line w n [] place line h = absurd (contains_none (place, line) h)
own_line w n (l ∷ lines) place line h = by_test (l.worker == w) refl h (own_line w (n + 1) lines place line)
  where
    either : l.worker ≡ w → (◌≡◌ {A = ℕ × Line} (n, l) (place, line)) ⊎ Contains (lines_from w (n + 1) lines) (place, line)
        → (Contains (lines_from w (n + 1) lines) (place, line) → Contains lines line × (line.worker ≡ w)) → Contains (l ∷ lines) line × (line.worker ≡ w)
    either mine (inl e) rest = let here : l ≡ line = ap line_at e in subst (λ (z : Line). Contains (l ∷ lines) z × (z.worker ≡ w)) here (first l lines, mine)
    either mine (inr g) rest = let r = rest g in (behind l lines line r.0, r.1)

    by_test : (b : Bool) → b ≡ (l.worker == w) → Contains (cond b ((n, l) ∷ lines_from w (n + 1) lines) (lines_from w (n + 1) lines)) (place, line)
        → (Contains (lines_from w (n + 1) lines) (place, line) → Contains lines line × (line.worker ≡ w)) → Contains (l ∷ lines) line × (line.worker ≡ w)
    by_test true e g rest = either (eqb-true l.worker w (sym e)) (cons_contains (n, l) (place, line) (lines_from w (n + 1) lines) g) rest
    by_test false e g rest = let r = rest g in (behind l lines line r.0, r.1)

-- the line of a stage is so
pub in_script : {H : Type 0} (w : ℕ) (script : List Line) (stages : List (Stage H)) → map (λ x. (x.place, x.line)) stages ≡ lines_of w script
    → (x : Stage H) → Contains stages x → Contains script x.line × (x.line.worker ≡ w)
in_script {H} w script stages each x h = own_line w 0 script x.place x.line
    (subst (λ (ps : List (ℕ × Line)). Contains ps (x.place, x.line)) each (map_contains (λ (y : Stage H). (y.place, y.line)) stages x h))

-- the lines of a course without their answers
course_lines : {X : Type 0} → (course : List (Told X)) → map line_told (in_order course) ≡ lines_of_served (lines_in course)
course_lines [] = refl
course_lines (x ∷ earlier) = map-append line_told (in_order earlier) ((x.served.asked, x.served.answer) ∷ []) ∙ ap (λ (ls : List Line). ls ++ x.served.asked ∷ []) (course_lines earlier)

-- the lines of a worker's course are its lines of the script
pub script_lines : {X H : Type 0} (w : ℕ) (script : List Line) (course : List (Told X)) (stages : List (Stage H)) → in_order course ≡ map (λ x. (x.line, x.answer)) stages
    → map (λ x. (x.place, x.line)) stages ≡ lines_of w script → lines_of_served (lines_in course) ≡ filter (λ l. l.worker == w) script
script_lines w script course stages told each =
    sym (course_lines course)
    ∙ ap (map line_told) told
    ∙ both (λ x. (x.line, x.answer)) line_told stages
    ∙ sym (both (λ x. (x.place, x.line)) line_at stages)
    ∙ ap (map line_at) each
    ∙ own_lines w 0 script
