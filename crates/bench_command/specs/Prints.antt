-- What a benchmark prints.
use Rattle.std.specs.Prelude.{Bool, IsTrue, List, length, ◌≡◌, ℕ}
use Rattle.workload.specs.Counts.{kinds_in, summary_of}
use Rattle.workload.specs.Text.{summary_line}
use Rattle.rock_disk.specs.File.{Files}
use Rattle.rock_disk.specs.Counts.{Counts}
use Rattle.workload.specs.Script.{bench_lines}
use Rattle.bench_command.specs.Answers.{answers_in}
use Rattle.bench_command.specs.Leaves.{RunServed}
use Rattle.bench_command.specs.Numbers.{IsMade}
use Rattle.bench_command.specs.Plain.{NoWorkerFailed, plain_line}
use Rattle.bench_command.specs.Stations.{made_counts}

-- The text is the line that sums up what workers answered to the lines of the benchmark.
pub record IsLineOfRun (volume_tells : Bool) (files files_after : Files) (name : List ℕ) (seed workers count : ℕ)
    (before after : Counts) (text : List ℕ) : Type 0 where
  -- They served these lines over the file.
  pub run : RunServed volume_tells files files_after name workers (bench_lines seed workers count) before after
  -- The line sums up their answers.
  pub is : text ≡ summary_line (summary_of (answers_in run.answers))
  -- There is one answer for each line, and each is counted once.
  pub requests : (summary_of (answers_in run.answers)).requests ≡ length (bench_lines seed workers count)
  -- Each answer is of one kind.
  pub kinds : (summary_of (answers_in run.answers)).requests ≡ kinds_in (summary_of (answers_in run.answers))

-- The text is what a benchmark prints.
pub record IsBenchText (volume_tells : Bool) (files files_after : Files) (name : List ℕ) (seed workers count : ℕ)
    (before after : Counts) (text : List ℕ) : Type 0 where
  -- A file was made for it,
  pub middle : Files
  pub made : IsMade volume_tells files middle name workers
  -- and it is the line of a run over this file.
  pub line : IsLineOfRun volume_tells middle files_after name seed workers count (made_counts before) after text
  -- Where no worker's station met a fault it is the one line of plain stores that were never written, of which each worker has its own.
  pub plain : IsTrue volume_tells → NoWorkerFailed before after → text ≡ plain_line seed workers count
