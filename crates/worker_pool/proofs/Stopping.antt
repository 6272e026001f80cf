-- A worker that stopped goes on by one line.
use Rattle.std.proofs.Common.{◌≡◌, ◌≢◌, inl, inr, ℕ, ◌+◌, ◌<◌, ◌≤◌, ◌==◌, zero, suc, Bool, true, false, cond, ◌&&◌, ⊎_elim, List, [], ◌∷◌, ◌++◌, take, length, sym, refl, ap, ◌∙◌, subst, arith, eq-eqb, ne_eqb, Contains}
use Rattle.std.specs.Prelude.{Result, Ok, Err, IfOk, OnErr, nat_lt}
use Rattle.rock_io.specs.declared.fault.Memory.{Memory}
use Rattle.std.specs.List.{filter}
use Rattle.std.proofs.lemmas.Bool.{lt-ltb, ltb-true}
use Rattle.std.proofs.lemmas.List.{append-nil}
use Rattle.std.proofs.lemmas.List.Elements.{Contains-push_cases, filter-append}
use Rattle.script_text.specs.Tabs.{UsesTab}
use Rattle.script_text.specs.declared.line.Line.{Line}
use Rattle.script_text.specs.declared.request.Request.{Request}
use Rattle.script_text.specs.declared.request.Request.TheVariants.{Mark}
use Rattle.script_text.specs.declared.answer.Answer.{Answer}
use Rattle.script_text.specs.declared.answer.Answer.TheVariants.{Marked}
use Rattle.script_text.specs.declared.shelf.Shelf.{Ghosts}
use Rattle.marks.specs.declared.view.View.{View}
use Rattle.marks.proofs.Lists.{none_in}
use Rattle.worker_pool.specs.Courses.{At, is_mark, sets_behind, IsServed, Stage, lines_from, lines_of, StepOf, Step, Wanted, Kept, Stopped}
use Rattle.worker_pool.specs.Knowing.{HasSet, Answered, Served}
use Rattle.worker_pool.proofs.Going.{lines_next, map_push, linked_push}

no_mark : (r : Request) → ((m : ℕ) → r ≡ Mark m → ⊥) → is_mark r ≡ false
no_mark (Mark m) n = absurd (n m refl)
no_mark _ n = refl

not_less : (b : Bool) (k n : ℕ) → nat_lt k n ≡ b → n ≤ k → b ≡ false
not_less true k n e le = let lt : k < n = ltb-true k n e in absurd (omega arith)
not_less false k n e le = refl

and_false : (b : Bool) → (b && false) ≡ false
and_false true = refl
and_false false = refl

-- no line up to the place stands behind it
dropped : (place k : ℕ) (line : Line) (rest : List (ℕ × Line)) (b : Bool) → nat_lt place k ≡ false → filter (sets_behind place) rest ≡ [] → filter (sets_behind place) (cond b ((k, line) ∷ rest) rest) ≡ []
dropped place k line rest true e none = ap (λ (t : Bool). cond (t && is_mark line.request) ((k, line) ∷ filter (sets_behind place) rest) (filter (sets_behind place) rest)) e ∙ none
dropped place k line rest false e none = none

none_behind : (w place k : ℕ) (xs : List Line) → k + length xs ≤ place + 1 → filter (sets_behind place) (lines_from w k xs) ≡ []
none_behind w place k [] le = refl
none_behind w place k (x ∷ xs) le = dropped place k x (lines_from w (k + 1) xs) (x.worker == w) (not_less (nat_lt place k) place k refl (omega arith)) (none_behind w place (k + 1) xs (omega arith))

short : (n : ℕ) (xs : List Line) → length (take n xs) ≤ n
short zero [] = omega arith
short zero (x ∷ xs) = omega arith
short (suc n) [] = omega arith
short (suc n) (x ∷ xs) = let rest = short n xs in omega arith

-- what one more line adds
added : (place n : ℕ) (line : Line) (b c : Bool) → (line.worker == line.worker) ≡ true → is_mark line.request ≡ c → place < n → filter (sets_behind place) (cond b ((n, line) ∷ []) []) ≡ cond (b && c) ((n, line) ∷ []) []
added place n line true c same e lt = ap (λ (t : Bool). cond (t && is_mark line.request) ((n, line) ∷ []) []) (lt-ltb place n lt) ∙ ap (λ (t : Bool). cond t ((n, line) ∷ []) []) e
added place n line false c same e lt = refl

marks_next : (lines : List Line) (w place n : ℕ) (line : Line) (b c : Bool) → At lines n line → (line.worker == w) ≡ b → is_mark line.request ≡ c → place < n
    → filter (sets_behind place) (lines_of w (take (n + 1) lines)) ≡ filter (sets_behind place) (lines_of w (take n lines)) ++ cond (b && c) ((n, line) ∷ []) []
marks_next lines w place n line b c at mine e lt = ap (filter (sets_behind place)) (lines_next lines w n line at)
    ∙ (filter-append (sets_behind place) (lines_of w (take n lines)) (cond (line.worker == w) ((n, line) ∷ []) [])
    ∙ ap (λ (l : List (ℕ × Line)). filter (sets_behind place) (lines_of w (take n lines)) ++ l) (ap (λ (t : Bool). filter (sets_behind place) (cond t ((n, line) ∷ []) [])) mine ∙ added place n line b c (eq-eqb line.worker line.worker refl) e lt))

module _ {H N : Type 0} (g : Ghosts H N) where
  wanted_of : (earlier : List Line) (line : Line) (shelf after : H) (answer : Result Answer Memory) (u : View H N) → IfOk answer (λ a. Answered g earlier line shelf a after u)
      → OnErr answer (IsServed line.request × ((tab : ℕ) → UsesTab line.request tab → g.is_free after tab)) → Wanted g earlier line shelf after
  wanted_of earlier line shelf after (Ok a) u is wants = inr (a, is.step)
  wanted_of earlier line shelf after (Err x) u is wants = inl wants

  -- memory was wanted at a line
  pub stopped_first : (lines : List Line) (w : ℕ) (start : H) (n : ℕ) (line : Line) (shelf after : H) (earlier : List Line) (answers : List (ℕ × Answer)) (answer : Result Answer Memory) (v u : View H N) → At lines n line → line.worker ≡ w
      → earlier ≡ take n lines → IfOk answer (λ a. Answered g earlier line shelf a after u) → OnErr answer (IsServed line.request × ((tab : ℕ) → UsesTab line.request tab → g.is_free after tab)) → Kept g shelf after
      → Served g lines w start n shelf answers v → Stopped g lines w (n + 1) start after
  stopped_first lines w start n line shelf after earlier answers answer v u at mine e is wants kept s = record {
    stages = s.stages;
    place = n;
    line = line;
    before = shelf;
    after = after;
    marked = [];
    each = s.each;
    linked = s.linked;
    steps = s.steps;
    at = at;
    mine = mine;
    passed = omega arith;
    wanted = subst (λ (l : List Line). Wanted g l line shelf after) e (wanted_of earlier line shelf after answer u is wants);
    kept = kept;
    marks = sym (none_behind w n 0 (take (n + 1) lines) (let long = short (n + 1) lines in omega arith));
    marks_linked = refl;
    marks_steps = λ t h. absurd (none_in t h);
  }

  -- a line that sets no mark of this worker is passed over
  stopped_other : (lines : List Line) (w n : ℕ) (line : Line) (start shelf : H) (b c : Bool) → At lines n line → (line.worker == w) ≡ b → is_mark line.request ≡ c → (b && c) ≡ false → Stopped g lines w n start shelf → Stopped g lines w (n + 1) start shelf
  stopped_other lines w n line start shelf b c at mine e none s = record {
    stages = s.stages;
    place = s.place;
    line = s.line;
    before = s.before;
    after = s.after;
    marked = s.marked;
    each = s.each;
    linked = s.linked;
    steps = s.steps;
    at = s.at;
    mine = s.mine;
    passed = (let p = s.passed in omega arith);
    wanted = s.wanted;
    kept = s.kept;
    marks = s.marks ∙ sym (marks_next lines w s.place n line b c at mine e s.passed ∙ (ap (λ (t : Bool). filter (sets_behind s.place) (lines_of w (take n lines)) ++ cond t ((n, line) ∷ []) []) none ∙ append-nil (filter (sets_behind s.place) (lines_of w (take n lines)))));
    marks_linked = s.marks_linked;
    marks_steps = s.marks_steps;
  }

  pub stopped_skip : (lines : List Line) (w n : ℕ) (line : Line) (start shelf : H) → At lines n line → line.worker ≢ w → Stopped g lines w n start shelf → Stopped g lines w (n + 1) start shelf
  stopped_skip lines w n line start shelf at other s = stopped_other lines w n line start shelf false (is_mark line.request) at (ne_eqb line.worker w other) refl refl s

  pub stopped_pass : (lines : List Line) (w n : ℕ) (line : Line) (start shelf : H) → At lines n line → ((m : ℕ) → line.request ≡ Mark m → ⊥) → Stopped g lines w n start shelf → Stopped g lines w (n + 1) start shelf
  stopped_pass lines w n line start shelf at other s = stopped_other lines w n line start shelf (line.worker == w) false at refl (no_mark line.request other) (and_false (line.worker == w)) s

  -- a mark is set
  pub stopped_mark : (lines : List Line) (w n m : ℕ) (line : Line) (start shelf after : H) (v u : View H N) → At lines n line → line.worker ≡ w → line.request ≡ Mark m → HasSet g m shelf after v u
      → Stopped g lines w n start shelf → Stopped g lines w (n + 1) start after
  stopped_mark lines w n m line start shelf after v u at mine e h s =
      let next : Stage H = record { place = n; line = line; before = shelf; answer = Marked; after = after } in
      let step : Step g lines next = subst (λ (r : Request). StepOf g r (take n lines) line shelf Marked after) (sym e) (refl, record { note = h.note; step = h.noted }) in record {
        stages = s.stages;
        place = s.place;
        line = s.line;
        before = s.before;
        after = s.after;
        marked = s.marked ++ next ∷ [];
        each = s.each;
        linked = s.linked;
        steps = s.steps;
        at = s.at;
        mine = s.mine;
        passed = (let p = s.passed in omega arith);
        wanted = s.wanted;
        kept = s.kept;
        marks = map_push (λ (t : Stage H). (t.place, t.line)) s.marked next
            ∙ (ap (λ (l : List (ℕ × Line)). l ++ (n, line) ∷ []) s.marks ∙ sym (marks_next lines w s.place n line true true at (eq-eqb line.worker w mine) (ap is_mark e) s.passed));
        marks_linked = linked_push s.after shelf s.marked next s.marks_linked refl;
        marks_steps = λ t i. ⊎_elim (λ (old : Contains s.marked t). s.marks_steps t old) (λ (q : next ≡ t). subst (Step g lines) q step) (Contains-push_cases s.marked next t i);
      }
