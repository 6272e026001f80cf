-- The text of the answers of all workers.
use Rattle.std.specs.Prelude.{List, [], ◌+◌, ◌++◌, ◌∷◌, ℕ}
use Rattle.std.specs.List.{flat_map}
use Rattle.answer_text.specs.Lines.{line_of}
use Rattle.script_text.specs.declared.answer.Answer.{Answer}

-- the lines of a worker, each with the number of its line in the script, joined
abbrev pub text_of_worker : (worker : ℕ) → List (ℕ × Answer) → List ℕ
text_of_worker worker answers = flat_map (λ x. line_of worker x.0 x.1) answers

-- those of the workers from this one on
abbrev pub text_from : (worker : ℕ) → List (List (ℕ × Answer)) → List ℕ
text_from worker [] = []
text_from worker (answers ∷ others) = text_of_worker worker answers ++ text_from (worker + 1) others

-- those of all workers, in order; the first is worker 1
abbrev pub text_of : List (List (ℕ × Answer)) → List ℕ
text_of answers = text_from 1 answers
