-- What was done for a command was done for each reading of its command line, of which there is one.
use Rattle.std.proofs.Common.{◌≡◌, List, Some, inl, inr, subst, sym, ℕ}
use Rattle.std.specs.Prelude.{Option}
use Rattle.rock_io.specs.Faults.{Rose}
use Rattle.rock_status.specs.declared.status.Status.{Status}
use Rattle.rock_status.specs.declared.status.Status.TheVariants.{SinkFault, SourceFault, Usage}
use Rattle.bench_command.specs.Ends.{BenchEnds}
use Rattle.file_commands.specs.Create.{CreateEnds}
use Rattle.file_commands.specs.Report.{AnyCount, IsAnchors, ReportEnds}
use Rattle.run_command.specs.Ends.{RunEnds}
use Rattle.rock_commands.specs.Alike.{LeavesScript, MakesOneAtMost}
use Rattle.rock_commands.specs.Bench.{BenchDoes}
use Rattle.rock_commands.specs.Carried.{CarriesOut}
use Rattle.rock_commands.specs.Command.{IsCommand}
use Rattle.rock_commands.specs.CommandLine.{IsBench, IsBenchLine, IsCheck, IsCommandLine, IsCreate, IsList, IsMigrate, IsRun, IsRunLine}
use Rattle.rock_commands.specs.Create.{CreateDoes}
use Rattle.rock_commands.specs.Migrate.{MigrateDoes}
use Rattle.rock_commands.specs.Report.{CheckDoes, ListDoes}
use Rattle.rock_commands.specs.Run.{RunDoes}
use Rattle.rock_commands.specs.World.{Tells, World}
use Rattle.rock_commands.specs.declared.command.Command.{Command}
use Rattle.rock_commands.specs.declared.command.Command.TheVariants as command
use Rattle.rock_commands.proofs.CommandFacts.{of_each, of_each_bench, of_each_check, of_each_create, of_each_migrate, of_each_run}
use Rattle.rock_commands.proofs.CommandFacts.{check_is_no_bench, check_is_no_create, check_is_no_run, create_is_no_bench, create_is_no_run}
use Rattle.rock_commands.proofs.CommandFacts.{list_is_no_bench, list_is_no_check, list_is_no_create, list_is_no_migrate, list_is_no_run}
use Rattle.rock_commands.proofs.CommandFacts.{migrate_is_no_bench, migrate_is_no_check, migrate_is_no_create, migrate_is_no_run}
use Rattle.rock_commands.proofs.CommandFacts.{run_is_no_bench}

-- the words of a command are a command line
pub is_line : (words : List (List ℕ)) (asked : Command) → IsCommand words asked → IsCommandLine words
is_line words (command.List target) is = inl (target.name.now, target.slot, is)
is_line words (command.Check target anchors) is = inr (inl (target.name.now, target.slot, anchors, is))
is_line words (command.Create target) is = inr (inr (inl (target.name.now, target.slot, target.slots, is)))
is_line words (command.Run target anchors workers) is = inr (inr (inr (inl (target.name.now, target.slot, anchors, workers, is))))
is_line words (command.Bench target) is = inr (inr (inr (inr (inl (target.name.now, target.seed, target.workers, target.count, is)))))
is_line words (command.Migrate target) is = inr (inr (inr (inr (inr (target.name.now, target.slot, is)))))

module _ {tells : Tells} {before after : World} {status : Status} where
  -- an equal command was carried out too
  pub carried_as : {asked same : Command} → asked ≡ same → CarriesOut tells same before after status
      → CarriesOut tells asked before after status
  carried_as is carried = subst (λ (c : Command). CarriesOut tells c before after status) (sym is) carried

  module _ (words : List (List ℕ)) where
    pub list_of : (asked : Command) → IsCommand words asked → CarriesOut tells asked before after status
        → (name : List ℕ) (given : Option ℕ) → IsList words name given → ListDoes tells name given before after status
    list_of (command.List target) is carried name given line =
        of_each words (λ n s. ListDoes tells n s before after status) name given is line carried.does
    list_of (command.Check target anchors) is carried name given line = absurd (list_is_no_check line is)
    list_of (command.Create target) is carried name given line = absurd (list_is_no_create line is)
    list_of (command.Run target anchors workers) is carried name given line = absurd (list_is_no_run line is)
    list_of (command.Bench target) is carried name given line = absurd (list_is_no_bench line is)
    list_of (command.Migrate target) is carried name given line = absurd (list_is_no_migrate line is)

    pub check_of : (asked : Command) → IsCommand words asked → CarriesOut tells asked before after status
        → (name : List ℕ) (given : Option ℕ) (anchors : ℕ) → IsCheck words name given anchors
        → CheckDoes tells name given anchors before after status
    check_of (command.List target) is carried name given anchors line = absurd (list_is_no_check is line)
    check_of (command.Check target count) is carried name given anchors line =
        of_each_check words (λ n s a. CheckDoes tells n s a before after status) name given anchors is line carried.does
    check_of (command.Create target) is carried name given anchors line = absurd (check_is_no_create line is)
    check_of (command.Run target count workers) is carried name given anchors line = absurd (check_is_no_run line is)
    check_of (command.Bench target) is carried name given anchors line = absurd (check_is_no_bench line is)
    check_of (command.Migrate target) is carried name given anchors line = absurd (migrate_is_no_check is line)

    pub create_of : (asked : Command) → IsCommand words asked → CarriesOut tells asked before after status
        → (name : List ℕ) (slot slots : ℕ) → IsCreate words name slot slots → CreateDoes tells name slot slots before after status
    create_of (command.List target) is carried name slot slots line = absurd (list_is_no_create is line)
    create_of (command.Check target anchors) is carried name slot slots line = absurd (check_is_no_create is line)
    create_of (command.Create target) is carried name slot slots line =
        of_each_create words (λ n s k. CreateDoes tells n s k before after status) name slot slots is line carried.does
    create_of (command.Run target anchors workers) is carried name slot slots line = absurd (create_is_no_run line is)
    create_of (command.Bench target) is carried name slot slots line = absurd (create_is_no_bench line is)
    create_of (command.Migrate target) is carried name slot slots line = absurd (migrate_is_no_create is line)

    pub run_of : (asked : Command) → IsCommand words asked → CarriesOut tells asked before after status
        → (name : List ℕ) (given : Option ℕ) (anchors workers : ℕ) → IsRun words name given anchors workers
        → RunDoes tells name given anchors workers before after status
    run_of (command.List target) is carried name given anchors workers line = absurd (list_is_no_run is line)
    run_of (command.Check target count) is carried name given anchors workers line = absurd (check_is_no_run is line)
    run_of (command.Create target) is carried name given anchors workers line = absurd (create_is_no_run is line)
    run_of (command.Run target count others) is carried name given anchors workers line =
        of_each_run words (λ n s a w. RunDoes tells n s a w before after status) name given anchors workers is line carried.does
    run_of (command.Bench target) is carried name given anchors workers line = absurd (run_is_no_bench line is)
    run_of (command.Migrate target) is carried name given anchors workers line = absurd (migrate_is_no_run is line)

    pub bench_of : (asked : Command) → IsCommand words asked → CarriesOut tells asked before after status
        → (name : List ℕ) (seed workers count : ℕ) → IsBench words name seed workers count
        → BenchDoes tells name seed workers count before after status
    bench_of (command.List target) is carried name seed workers count line = absurd (list_is_no_bench is line)
    bench_of (command.Check target anchors) is carried name seed workers count line = absurd (check_is_no_bench is line)
    bench_of (command.Create target) is carried name seed workers count line = absurd (create_is_no_bench is line)
    bench_of (command.Run target anchors others) is carried name seed workers count line = absurd (run_is_no_bench is line)
    bench_of (command.Bench target) is carried name seed workers count line =
        of_each_bench words (λ n x w k. BenchDoes tells n x w k before after status) name seed workers count is line carried.does
    bench_of (command.Migrate target) is carried name seed workers count line = absurd (migrate_is_no_bench is line)

    pub migrate_of : (asked : Command) → IsCommand words asked → CarriesOut tells asked before after status
        → (name : List ℕ) (slot : ℕ) → IsMigrate words name slot → MigrateDoes tells name slot before after status
    migrate_of (command.List target) is carried name slot line = absurd (list_is_no_migrate is line)
    migrate_of (command.Check target anchors) is carried name slot line = absurd (migrate_is_no_check line is)
    migrate_of (command.Create target) is carried name slot line = absurd (migrate_is_no_create line is)
    migrate_of (command.Run target anchors workers) is carried name slot line = absurd (migrate_is_no_run line is)
    migrate_of (command.Bench target) is carried name slot line = absurd (migrate_is_no_bench line is)
    migrate_of (command.Migrate target) is carried name slot line =
        of_each_migrate words (λ n s. MigrateDoes tells n s before after status) name slot is line carried.does

    -- other lines than those of `run` and `bench` make one station at most
    pub stations_of : (asked : Command) → IsCommand words asked → CarriesOut tells asked before after status
        → ¬ IsRunLine words → ¬ IsBenchLine words → MakesOneAtMost before after status
    stations_of (command.List target) is carried run bench = carried.stations
    stations_of (command.Check target anchors) is carried run bench = carried.stations
    stations_of (command.Create target) is carried run bench = carried.stations
    stations_of (command.Run target anchors workers) is carried run bench =
        absurd (run (target.name.now, target.slot, anchors, workers, is))
    stations_of (command.Bench target) is carried run bench = absurd
        (bench (target.name.now, target.seed, target.workers, target.count, is))
    stations_of (command.Migrate target) is carried run bench = carried.stations

    -- other lines than those of `run` leave the script
    pub script_of : (asked : Command) → IsCommand words asked → CarriesOut tells asked before after status
        → ¬ IsRunLine words → LeavesScript before after
    script_of (command.List target) is carried run = carried.script
    script_of (command.Check target anchors) is carried run = carried.script
    script_of (command.Create target) is carried run = carried.script
    script_of (command.Run target anchors workers) is carried run = absurd (run (target.name.now, target.slot, anchors, workers, is))
    script_of (command.Bench target) is carried run = carried.script
    script_of (command.Migrate target) is carried run = carried.script

  -- no command ends with the status of words that are none
  pub never_usage : (asked : Command) → CarriesOut tells asked before after status → status ≡ Usage → ⊥
  never_usage (command.List target) carried is =
      subst (λ (s : Status). ReportEnds AnyCount target.slot before.sink_faults after.sink_faults before.counts after.counts s) is
      carried.does.ends
  never_usage (command.Check target anchors) carried is =
      subst (λ (s : Status). ReportEnds (IsAnchors anchors) target.slot before.sink_faults after.sink_faults before.counts after.counts s)
      is carried.does.ends
  never_usage (command.Create target) carried is =
      subst (λ (s : Status). CreateEnds target.slot target.slots before.counts after.counts s) is carried.does.ends
  never_usage (command.Run target anchors workers) carried is =
      subst (λ (s : Status). RunEnds target.slot anchors workers before.source_faults after.source_faults before.sink_faults
      after.sink_faults before.counts after.counts s) is carried.does.ends
  never_usage (command.Bench target) carried is =
      subst (λ (s : Status). BenchEnds target.workers target.count before.sink_faults after.sink_faults before.counts after.counts s) is
      carried.does.ends
  never_usage (command.Migrate target) carried is =
      subst (λ (s : Status). ReportEnds AnyCount (Some target.slot) before.sink_faults after.sink_faults before.counts after.counts s) is
      carried.does.ends

  -- where one ends with a fault of the sink, the sink's count rose
  pub sink_failed : (asked : Command) → CarriesOut tells asked before after status → status ≡ SinkFault
      → Rose before.sink_faults after.sink_faults
  sink_failed (command.List target) carried is =
      (subst (λ (s : Status). ReportEnds AnyCount target.slot before.sink_faults after.sink_faults before.counts after.counts s) is
      carried.does.ends).1
  sink_failed (command.Check target anchors) carried is =
      (subst (λ (s : Status). ReportEnds (IsAnchors anchors) target.slot before.sink_faults after.sink_faults before.counts after.counts s)
      is carried.does.ends).1
  sink_failed (command.Create target) carried is =
      absurd (subst (λ (s : Status). CreateEnds target.slot target.slots before.counts after.counts s) is carried.does.ends)
  sink_failed (command.Run target anchors workers) carried is =
      (subst (λ (s : Status). RunEnds target.slot anchors workers before.source_faults after.source_faults before.sink_faults
      after.sink_faults before.counts after.counts s) is carried.does.ends).2
  sink_failed (command.Bench target) carried is =
      (subst (λ (s : Status). BenchEnds target.workers target.count before.sink_faults after.sink_faults before.counts after.counts s) is
      carried.does.ends).1
  sink_failed (command.Migrate target) carried is =
      (subst (λ (s : Status). ReportEnds AnyCount (Some target.slot) before.sink_faults after.sink_faults before.counts after.counts s) is
      carried.does.ends).1

  -- and where one ends with a fault of the source, the source's did
  pub source_failed : (asked : Command) → CarriesOut tells asked before after status → status ≡ SourceFault
      → Rose before.source_faults after.source_faults
  source_failed (command.List target) carried is =
      absurd (subst (λ (s : Status). ReportEnds AnyCount target.slot before.sink_faults after.sink_faults before.counts after.counts s) is
      carried.does.ends)
  source_failed (command.Check target anchors) carried is =
      absurd (subst (λ (s : Status). ReportEnds (IsAnchors anchors) target.slot before.sink_faults after.sink_faults before.counts
      after.counts s) is carried.does.ends)
  source_failed (command.Create target) carried is =
      absurd (subst (λ (s : Status). CreateEnds target.slot target.slots before.counts after.counts s) is carried.does.ends)
  source_failed (command.Run target anchors workers) carried is =
      (subst (λ (s : Status). RunEnds target.slot anchors workers before.source_faults after.source_faults before.sink_faults
      after.sink_faults before.counts after.counts s) is carried.does.ends).0
  source_failed (command.Bench target) carried is =
      absurd (subst (λ (s : Status). BenchEnds target.workers target.count before.sink_faults after.sink_faults before.counts after.counts
      s) is carried.does.ends)
  source_failed (command.Migrate target) carried is =
      absurd (subst (λ (s : Status). ReportEnds AnyCount (Some target.slot) before.sink_faults after.sink_faults before.counts after.counts
      s) is carried.does.ends)
