-- What workers are answered, each by a plain store of its own.
use Rattle.std.specs.Prelude.{◌≡◌, ℕ, ◌+◌, ◌<◌, List, [], length, map, flat_map, slice_index_or}
use Rattle.std.specs.List.{range_with_len}
use Rattle.script_text.specs.declared.answer.Answer.{Answer}
use Rattle.plain_model.specs.Serving.{answers_of}
use Rattle.plain_laws.specs.Renaming.{renamed}
use Rattle.workload.specs.Script.{bench_lines}
use Rattle.bench_laws.specs.Setting.{setting_for, store_for}

-- what a plain store that was never written answers to the lines of one worker of a benchmark
abbrev pub answers_to_one : (seed workers count worker : ℕ) → List Answer
answers_to_one seed workers count worker = answers_of (setting_for workers) (bench_lines seed workers count) worker (store_for workers)

-- what such stores answer to all workers in order, each to one worker
abbrev pub plain_answers : (seed workers count : ℕ) → List Answer
plain_answers seed workers count = flat_map (answers_to_one seed workers count) (range_with_len 1 workers)

-- the answers of all workers, of which each has a row
abbrev pub all_of : List (List Answer) → List Answer
all_of rows = flat_map (λ row. row) rows

-- the answers are these but for versions
pub record IsRenamed (given plain : List Answer) : Type 0 where
  pub rename : ℕ → ℕ
  pub is : given ≡ map (renamed rename) plain

-- These are the answers of the workers of a benchmark, each as by a plain store of its own, but for versions.
pub record AreRenamed (seed workers count : ℕ) (rows : List (List Answer)) : Type 0 where
  -- Each worker has a row,
  pub many : length rows ≡ workers
  -- in the order of the workers, who are counted from 1.
  pub each : (place : ℕ) → place < workers → IsRenamed (slice_index_or rows place []) (answers_to_one seed workers count (place + 1))
