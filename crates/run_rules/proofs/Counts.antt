-- Each line of a script has one answer, where each is for one of the workers.
use Rattle.std.proofs.Common.{Bool, Contains, List, [], ap, arith, cond, false, length, map, refl, suc, sym, true, zero, ⊎_elim, ◌+◌, ◌<◌}
use Rattle.std.proofs.Common.{◌==◌, ◌∙◌, ◌∷◌, ◌≡◌, ◌≤◌, ℕ}
use Rattle.std.proofs.lemmas.Bool.{eq-eqb, ne_eqb}
use Rattle.std.proofs.lemmas.List.{length-map}
use Rattle.std.proofs.lemmas.List.Elements.{Contains-append_right}
use Rattle.std.proofs.lemmas.List.Sums.{sum_by-cons}
use Rattle.std.specs.Prelude.{count_by, sum_by}
use mathlib.Core.Option.{some}
use lib.ListN.{get_elem?}
use Rattle.script_text.specs.declared.answer.Answer.{Answer}
use Rattle.script_text.specs.declared.line.Line.{Line}
use Rattle.worker_pool.specs.Courses.{Stage, lines_from, lines_of}
use Rattle.worker_pool.specs.Running.{Account, answers_of}
use Rattle.run_rules.proofs.Lists.{not_above}

is_for : (worker : ℕ) → Line → Bool
is_for worker line = line.worker == worker

-- how many lines are for a worker
abbrev lines_for : (worker : ℕ) → List Line → ℕ
lines_for worker lines = count_by (is_for worker) lines

one_more : (worker : ℕ) (line : Line) (lines : List Line) → lines_for worker (line ∷ lines) ≡ cond
    (line.worker == worker) 1 0 + lines_for worker lines
unfolding is_for
one_more worker line lines = sum_by-cons (λ l. cond (l.worker == worker) 1 0) line lines

chosen : {A : Type 0} (b : Bool) (x : A) (xs : List A) → length (cond b (x ∷ xs) xs) ≡ cond b 1 0 + length xs
chosen true x xs = omega arith
chosen false x xs = omega arith

counted_from : (worker n : ℕ) (lines : List Line) → length (lines_from worker n lines) ≡ lines_for worker lines
counted_from worker n [] = refl
counted_from worker n (line ∷ lines) =
    chosen (line.worker == worker) (n, line) (lines_from worker (n + 1) lines)
    ∙ ap (λ (m : ℕ). cond (line.worker == worker) 1 0 + m) (counted_from worker (n + 1) lines)
    ∙ sym (one_more worker line lines)

-- how many lines are for one of so many workers, behind the n-th one
abbrev lines_behind : (n many : ℕ) → List Line → ℕ
lines_behind n zero lines = 0
lines_behind n (suc many) lines = lines_for (n + 1) lines + lines_behind (n + 1) many lines

none_behind : (n many : ℕ) → lines_behind n many [] ≡ 0
none_behind n zero = refl
none_behind n (suc many) = let rest = none_behind (n + 1) many in omega (arith, rest)

-- a line of an earlier worker counts for none of them
earlier : (n many : ℕ) (line : Line) (lines : List Line) → line.worker ≤ n → lines_behind n many (line ∷ lines) ≡ lines_behind n many lines
earlier n zero line lines low = refl
earlier n (suc many) line lines low =
    let other : (line.worker == n + 1) ≡ false = ne_eqb line.worker (n + 1) (λ e. omega arith) in
    let first : lines_for (n + 1) (line ∷ lines) ≡ 0 + lines_for (n + 1) lines = one_more (n + 1) line lines
    ∙ ap (λ (b : Bool). cond b 1 0 + lines_for (n + 1) lines) other in
    let rest = earlier (n + 1) many line lines (omega arith) in
    omega (arith, first, rest)

-- and one of theirs for one
within_counts : (n many : ℕ) (line : Line) (lines : List Line) → n < line.worker → line.worker ≤ n + many
    → lines_behind n many (line ∷ lines) ≡ 1 + lines_behind n many lines
within_counts n zero line lines low high = absurd (omega arith)
within_counts n (suc many) line lines low high =
    ⊎_elim
    (λ (first : line.worker ≤ n + 1).
    let same : (line.worker == n + 1) ≡ true = eq-eqb line.worker (n + 1) (omega arith) in
    let here : lines_for (n + 1) (line ∷ lines) ≡ 1 + lines_for (n + 1) lines = one_more (n + 1) line lines
    ∙ ap (λ (b : Bool). cond b 1 0 + lines_for (n + 1) lines) same in
    let rest = earlier (n + 1) many line lines first in
    omega (arith, here, rest))
    (λ (later : n + 1 < line.worker).
    let other : (line.worker == n + 1) ≡ false = ne_eqb line.worker (n + 1) (λ e. omega arith) in
    let here : lines_for (n + 1) (line ∷ lines) ≡ 0 + lines_for (n + 1) lines = one_more (n + 1) line lines
    ∙ ap (λ (b : Bool). cond b 1 0 + lines_for (n + 1) lines) other in
    let rest = within_counts (n + 1) many line lines later (omega arith) in
    omega (arith, here, rest))
    (not_above line.worker (n + 1))

-- all lines are for one of the workers
all_within : (workers : ℕ) (lines : List Line) → ((line : Line) → Contains lines line → (1 ≤ line.worker) × (line.worker ≤ workers))
    → lines_behind 0 workers lines ≡ length lines
all_within workers [] within = none_behind 0 workers
all_within workers (line ∷ lines) within =
    let bounds = within line (0, (omega arith), refl) in
    let low = bounds.0 in
    let high = bounds.1 in
    let rest = all_within workers lines (λ other among. within other (Contains-append_right (line ∷ []) lines other among)) in
    let first = within_counts 0 workers line lines (omega arith) (omega arith) in
    omega (arith, rest, first)

-- the answers of workers who each served its lines
served_lines : {H : Type 0} (n : ℕ) (accounts : List (Account H)) (script : List Line)
    → ((w : ℕ) (a : Account H) → get_elem? accounts w ≡ some a → map (λ x. (x.place, x.line)) a.stages ≡ lines_of (n + w + 1) script)
    → sum_by (λ (mine : List (ℕ × Answer)). length mine) (map answers_of accounts) ≡ lines_behind n (length accounts) script
served_lines n [] script each = refl
served_lines {H} n (a ∷ accounts) script each =
    let stages : length (answers_of a) ≡ length a.stages = length-map a.stages (λ (s : Stage H). (s.line.number, s.answer)) in
    let lines : length a.stages ≡ lines_for (n + 1) script =
    sym (length-map a.stages (λ (s : Stage H). (s.place, s.line))) ∙ ap length (each 0 a refl)
    ∙ ap (λ (w : ℕ). length (lines_of w script)) (omega arith) ∙ counted_from (n + 1) 0 script in
    let rest = served_lines (n + 1) accounts script (λ w b at. each (suc w) b at ∙ ap (λ (v : ℕ). lines_of v script) (omega arith)) in
    let sum = sum_by-cons (λ (mine : List (ℕ × Answer)). length mine) (answers_of a) (map answers_of accounts) in
    omega (arith, stages, lines, rest, sum)

pub as_many_answers : {H : Type 0} (workers : ℕ) (accounts : List (Account H)) (script : List Line) → length accounts ≡ workers
    → ((line : Line) → Contains script line → (1 ≤ line.worker) × (line.worker ≤ workers))
    → ((w : ℕ) (a : Account H) → get_elem? accounts w ≡ some a → map (λ x. (x.place, x.line)) a.stages ≡ lines_of (w + 1) script)
    → sum_by (λ (mine : List (ℕ × Answer)). length mine) (map answers_of accounts) ≡ length script
as_many_answers workers accounts script many within each =
    served_lines 0 accounts script (λ w a at. each w a at ∙ ap (λ (v : ℕ). lines_of v script) (omega arith))
    ∙ ap (λ (m : ℕ). lines_behind 0 m script) many
    ∙ all_within workers script within
