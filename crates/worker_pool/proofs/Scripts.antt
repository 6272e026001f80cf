-- Scripts that were read meet the conditions of a run.
use Rattle.std.proofs.Common.{◌≡◌, ⊎_elim, ℕ, ◌<◌, ◌≤◌, Bool, true, false, List, [], ◌∷◌, ◌++◌, take, length, get_or, sym, refl, ap, ◌∙◌, subst, arith, Contains, eqb-true}
use Rattle.std.specs.List.{list_any}
use Rattle.std.proofs.lemmas.List.{take-append-le}
use Rattle.std.proofs.lemmas.List.Folds.{list_any_none}
use Rattle.std.proofs.lemmas.List.Elements.{Contains-push_cases, Contains-get_or}
use Rattle.script_text.specs.declared.line.Line.{Line}
use Rattle.script_text.specs.declared.request.Request.{Request}
use Rattle.script_text.specs.declared.request.Request.TheVariants.{Mark, Await}
use Rattle.script_text.specs.declared.verb.Verb.{Verb}
use Rattle.script_text.specs.Requests.{SpellsRequest}
use Rattle.script_text.specs.Lines.{AreLines, IsMarked}
use Rattle.script_text.specs.Lines.AreLines.{no_line, one_more}
use Rattle.worker_pool.specs.Courses.{At, sets, sets_by}
use Rattle.worker_pool.specs.Knowing.{HasMarks}
use Rattle.worker_pool.proofs.Places.{push_cases, take_whole}

-- what the test says of a request
tested : (r : Request) (m : ℕ) (b : Bool) → sets_by m r ≡ b → (r ≡ Mark m → ⊥) → b ≡ false
tested r m false e none = refl
tested (Mark n) m true e none = absurd (none (ap Mark (eqb-true n m e)))
tested _ m true e none = sym e

none_sets : (lines : List Line) (m : ℕ) → (IsMarked lines m → ⊥) → list_any (sets m) lines ≡ false
none_sets lines m none = list_any_none (sets m) lines (λ k d lt. let line = get_or lines k d in
    tested line.request m (sets m line) refl (λ e. none (line, Contains-get_or lines k d lt, e)))

marked_below : (r : Request) (name : Verb) (words : List (List ℕ)) (m : ℕ) → SpellsRequest r name words → r ≡ Mark m → m < 64
marked_below r name words m spelled e = let here = subst (λ (q : Request). SpellsRequest q name words) e spelled in let le = here.1.0 in omega arith

awaited_below : (r : Request) (name : Verb) (words : List (List ℕ)) (m : ℕ) → SpellsRequest r name words → r ≡ Await m → m < 64
awaited_below r name words m spelled e = let here = subst (λ (q : Request). SpellsRequest q name words) e spelled in let le = here.1.0 in omega arith

-- marks are below 64, and no two lines set one mark
pub has_marks : {workers : ℕ} {texts : List (List ℕ)} {lines : List Line} → AreLines workers texts lines → HasMarks lines
has_marks no_line = record { set = λ k m line at e. absurd (let lt = at.0 in omega arith); awaited = λ k m line at e. absurd (let lt = at.0 in omega arith) }
has_marks (one_more {lines = lines} {line = line} before is) =
    let old = has_marks before in record {
      set = λ k m x at e. ⊎_elim
          (λ (here : At lines k x). let was = old.set k m x here e in
          (was.0, ap (list_any (sets m)) (take-append-le k lines (line ∷ []) (let lt = here.0 in omega arith)) ∙ was.1))
          (λ (new : (k ≡ length lines) × (line ≡ x)).
          let same : line.request ≡ Mark m = ap (λ (l : Line). l.request) new.1 ∙ e in (
            marked_below line.request is.name is.fields m is.request same,
            ap (λ (n : ℕ). list_any (sets m) (take n (lines ++ line ∷ []))) new.0
                ∙ (ap (list_any (sets m)) (take-append-le (length lines) lines (line ∷ []) (omega arith) ∙ take_whole lines) ∙ none_sets lines m (is.unmarked m same)),
          ))
          (push_cases lines line x k at);
      awaited = λ k m x at e. ⊎_elim
          (λ (here : At lines k x). old.awaited k m x here e)
          (λ (new : (k ≡ length lines) × (line ≡ x)). awaited_below line.request is.name is.fields m is.request (ap (λ (l : Line). l.request) new.1 ∙ e))
          (push_cases lines line x k at);
    }

-- each line is for one of the workers
pub has_workers : {workers : ℕ} {texts : List (List ℕ)} {lines : List Line} → AreLines workers texts lines → (x : Line) → Contains lines x → (1 ≤ x.worker) × (x.worker ≤ workers)
has_workers no_line x h = absurd (let lt = h.1 in omega arith)
has_workers {workers = workers} (one_more {lines = lines} {line = line} before is) x h = ⊎_elim
    (λ (old : Contains lines x). has_workers before x old)
    (λ (same : line ≡ x). subst (λ (l : Line). (1 ≤ l.worker) × (l.worker ≤ workers)) same (is.from, is.to))
    (Contains-push_cases lines line x h)
