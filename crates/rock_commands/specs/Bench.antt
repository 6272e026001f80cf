-- What `bench` does.
use Rattle.std.specs.Prelude.{IsTrue, List, ◌++◌, ◌≡◌, ℕ}
use Rattle.rock_io.specs.Faults.{Rose}
use Rattle.bench_command.specs.Ends.{BenchEnds, BenchSays, IsBenchRefused}
use Rattle.bench_command.specs.Leaves.{BenchLeaves}
use Rattle.bench_command.specs.Numbers.{MayBench}
use Rattle.bench_command.specs.Plain.{NoWorkerFailed, plain_line}
use Rattle.bench_command.specs.Prints.{IsBenchText}
use Rattle.bench_command.specs.Stations.{BenchEnded, BenchFailed, BenchUnfailed}
use Rattle.file_commands.specs.Report.{ReportPrints, ReportsOrLacksMemory}
use Rattle.rock_status.specs.declared.status.Status.{Status}
use Rattle.rock_status.specs.declared.status.Status.TheVariants.{DeviceFault, Done}
use Rattle.workload.specs.Script.{bench_lines}
use Rattle.rock_commands.specs.World.{Tells, World}

-- A benchmark was to be run over a new file of this name. Its script is made from a seed, for so many workers, and has so many rounds.
pub record BenchDoes (tells : Tells) (name : List ℕ) (seed workers count : ℕ) (before after : World) (status : Status) : Type 0 where
  -- When each status comes: by the numbers, and by the counts of faults,
  pub ends : BenchEnds workers count before.sink_faults after.sink_faults before.counts after.counts status
  -- and by the files.
  pub says : IsTrue tells.volume → BenchSays before.files name status
  -- Where a number or the name refuses the benchmark, it is refused so,
  pub refused : IsBenchRefused tells.volume before.files name workers count status
  -- and where nothing refuses it and no fault comes, it is done, unless memory runs out.
  pub complete : IsTrue tells.volume → MayBench before.files name workers count → ¬ Rose before.sink_faults after.sink_faults
      → ¬ BenchFailed before.counts after.counts → ReportsOrLacksMemory status
  -- What was printed.
  pub prints : IsTrue tells.sink
      → ReportPrints (IsBenchText tells.volume before.files after.files name seed workers count before.counts after.counts)
      before.taken after.taken status
  -- What is left of the files.
  pub leaves : BenchLeaves tells.volume before.files after.files name workers (bench_lines seed workers count)
      before.counts after.counts status
  -- Where no worker's station met a fault it prints one line, whatever order the workers come in: that of plain stores that were never
  -- written, each of which answers one worker. The seed, the workers and the rounds alone determine it.
  pub plain : IsTrue tells.volume → IsTrue tells.sink → status ≡ Done → NoWorkerFailed before.counts after.counts
      → after.taken ≡ before.taken ++ plain_line seed workers count
  -- Its stations are that of the header area of its file, and behind it those of its run: each that was made was ended.
  pub stations : BenchEnded before.counts after.counts
  -- At any status but that of a fault of the disk the volume's count is as it was, and the stations of the header area and of the rebuild
  -- were ended with none.
  pub unfailed : (status ≡ DeviceFault → ⊥) → BenchUnfailed before.counts after.counts
