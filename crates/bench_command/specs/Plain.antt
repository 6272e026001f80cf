-- What a benchmark prints that meets no fault.
use Rattle.std.specs.Prelude.{List, ℕ}
use Rattle.workload.specs.Counts.{summary_of}
use Rattle.workload.specs.Text.{summary_line}
use Rattle.rock_disk.specs.Counts.{Counts}
use Rattle.run_rules.specs.Plain.{NoneFailedServing}
use Rattle.bench_laws.specs.Plain.{plain_answers}
use Rattle.bench_command.specs.Stations.{made_counts}

-- the line that sums up what plain stores that were never written answer, each to the lines of one worker
abbrev pub plain_line : (seed workers count : ℕ) → List ℕ
plain_line seed workers count = summary_line (summary_of (plain_answers seed workers count))

-- no station of a worker was ended with a fault, where those of the run are behind that of the header area
abbrev pub NoWorkerFailed : (before after : Counts) → Type 0
NoWorkerFailed before after = NoneFailedServing (made_counts before) after
