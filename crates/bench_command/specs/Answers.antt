-- The answers of all workers as one list.
use Rattle.std.specs.Prelude.{List, flat_map, map, ℕ}
use Rattle.script_text.specs.declared.answer.Answer.{Answer}

-- the workers in their order, each with its answers in theirs
abbrev pub answers_in : List (List (ℕ × Answer)) → List Answer
answers_in workers = flat_map (λ answers. map (λ (numbered : ℕ × Answer). numbered.1) answers) workers
