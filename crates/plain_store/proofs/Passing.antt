-- One line more is served, or passed by.
use Rattle.std.proofs.Common.{◌≡◌, ℕ, List, [], ◌∷◌, ◌++◌, ap, sym, ◌∙◌, append_assoc, Bool, true, false, cond, refl}
use Rattle.std.specs.Prelude.{◌==◌}
use Rattle.script_text.specs.declared.line.Line.{Line}
use Rattle.script_text.specs.declared.answer.Answer.{Answer}
use Rattle.plain_model.specs.declared.store.Setting.{Setting}
use Rattle.plain_model.specs.declared.store.Plain.{Plain}
use Rattle.plain_model.specs.Writing.{Step, step}
use Rattle.plain_model.specs.Serving.{serve, answers, after, lines_for}

pub answers_on : (s : Setting) (script : List Line) (worker : ℕ) (line : Line) (rest : List Line) (p q : Plain) (a : Answer) (given more : List Answer)
    → (line.worker == worker) ≡ true → serve s script line p ≡ step a q → more ≡ given ++ a ∷ []
    → given ++ answers s script (lines_for worker (line ∷ rest)) p ≡ more ++ answers s script (lines_for worker rest) q
answers_on s script worker line rest p q a given more mine served grown =
    ap (λ b. given ++ answers s script (cond b (line ∷ lines_for worker rest) (lines_for worker rest)) p) mine
    ∙ ap (λ (r : Step). given ++ r.answer ∷ answers s script (lines_for worker rest) r.after) served
    ∙ sym (append_assoc given (a ∷ []) (answers s script (lines_for worker rest) q))
    ∙ ap (λ xs. xs ++ answers s script (lines_for worker rest) q) (sym grown)

pub after_on : (s : Setting) (script : List Line) (worker : ℕ) (line : Line) (rest : List Line) (p q : Plain) (a : Answer)
    → (line.worker == worker) ≡ true → serve s script line p ≡ step a q
    → after s script (lines_for worker (line ∷ rest)) p ≡ after s script (lines_for worker rest) q
after_on s script worker line rest p q a mine served =
    ap (λ b. after s script (cond b (line ∷ lines_for worker rest) (lines_for worker rest)) p) mine
    ∙ ap (λ (r : Step). after s script (lines_for worker rest) r.after) served

pub lines_on : (worker : ℕ) (line : Line) (rest : List Line) → (line.worker == worker) ≡ false → lines_for worker (line ∷ rest) ≡ lines_for worker rest
lines_on worker line rest other = ap (λ b. cond b (line ∷ lines_for worker rest) (lines_for worker rest)) other
