-- What was printed, and how the command ends where the line was to be printed.
use Rattle.std.proofs.Common.{List, ℕ}
use Rattle.file_commands.specs.Report.{PrintEnds, ReportPrints}
use Rattle.rock_status.specs.declared.status.Status.{Status}
use Rattle.rock_status.specs.declared.status.Status.TheVariants.{BadGeometry, BadScript, DeviceFault, Done, Exists, Memory, Missing, SinkFault, Small, SourceFault, Usage}
use Rattle.rock_disk.specs.Counts.{Counts}
use Rattle.bench_command.specs.Ends.{RunEnds}

-- printing ends in one of three ways
pub by_end : (P : Status → Type 0) (k k' : ℕ) (status : Status) → PrintEnds k k' status → P Done → P Memory → P SinkFault → P status
by_end P k k' Done ends done memory failed = done
by_end P k k' Usage ends done memory failed = absurd ends
by_end P k k' Memory ends done memory failed = memory
by_end P k k' SourceFault ends done memory failed = absurd ends
by_end P k k' SinkFault ends done memory failed = failed
by_end P k k' DeviceFault ends done memory failed = absurd ends
by_end P k k' (BadScript line cause) ends done memory failed = absurd ends
by_end P k k' Missing ends done memory failed = absurd ends
by_end P k k' (Small bytes) ends done memory failed = absurd ends
by_end P k k' (BadGeometry field) ends done memory failed = absurd ends
by_end P k k' Exists ends done memory failed = absurd ends

-- a run whose line was printed, or not, ends as the printing did
pub run_ends : (workers k k' : ℕ) (before after : Counts) (status : Status) → PrintEnds k k' status → RunEnds workers k k' before after status
run_ends workers k k' before after Done ends = tt
run_ends workers k k' before after Usage ends = absurd ends
run_ends workers k k' before after Memory ends = tt
run_ends workers k k' before after SourceFault ends = absurd ends
run_ends workers k k' before after SinkFault ends = ends
run_ends workers k k' before after DeviceFault ends = absurd ends
run_ends workers k k' before after (BadScript line cause) ends = absurd ends
run_ends workers k k' before after Missing ends = absurd ends
run_ends workers k k' before after (Small bytes) ends = absurd ends
run_ends workers k k' before after (BadGeometry field) ends = absurd ends
run_ends workers k k' before after Exists ends = absurd ends

-- what was printed is told in other words
pub told_so : (IsText Told : List ℕ → Type 0) (taken taken_after : List ℕ) (status : Status) → ((text : List ℕ) → IsText text → Told text) → ReportPrints IsText taken taken_after status → ReportPrints Told taken taken_after status
told_so IsText Told taken taken_after Done tells p = (p.0, tells p.0 p.1, p.2)
told_so IsText Told taken taken_after Usage tells p = p
told_so IsText Told taken taken_after Memory tells p = p
told_so IsText Told taken taken_after SourceFault tells p = p
told_so IsText Told taken taken_after SinkFault tells p = (p.0, tells p.0 p.1, p.2)
told_so IsText Told taken taken_after DeviceFault tells p = p
told_so IsText Told taken taken_after (BadScript line cause) tells p = p
told_so IsText Told taken taken_after Missing tells p = p
told_so IsText Told taken taken_after (Small bytes) tells p = p
told_so IsText Told taken taken_after (BadGeometry field) tells p = p
told_so IsText Told taken taken_after Exists tells p = p
