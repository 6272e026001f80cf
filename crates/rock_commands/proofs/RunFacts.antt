-- What is said of a run gives all that `run` says: also what a recorded size gives, and what one worker prints whose station met no fault.
-- The same
-- of a benchmark.
use Rattle.std.proofs.Common.{◌≡◌, ◌++◌, ◌∙◌, List, ap, subst, ℕ}
use Rattle.std.specs.Prelude.{Bool, IsTrue, Option}
use Rattle.rock_disk.specs.Counts.{Counts}
use Rattle.rock_disk.specs.File.{Files}
use Rattle.rock_run.specs.Device.{RunEnded, RunUnfailed}
use Rattle.bench_command.specs.Plain.{NoWorkerFailed, plain_line}
use Rattle.bench_command.specs.Prints.{IsBenchText}
use Rattle.file_commands.specs.Report.{ReportPrints}
use Rattle.rock_status.specs.declared.status.Status.{Status}
use Rattle.rock_status.specs.declared.status.Status.TheVariants.{DeviceFault, Done}
use Rattle.run_command.specs.Ends.{NoFault, RunsOrLacksMemory}
use Rattle.run_command.specs.Plain.{NoneFailedServing, PrintsPlainly}
use Rattle.run_command.specs.Prints.{IsRunText, RunPrints}
use Rattle.run_command.specs.Says.{MayRun}
use Rattle.run_command.specs.Whole.{IsRunFor}
use Rattle.run_command.proofs.Recorded.{run_given}
use Rattle.script_text.specs.Script.{IsScript, IsTakenFrom}
use Rattle.rock_commands.specs.Run.{RunDoes}
use Rattle.rock_commands.specs.World.{Tells, World}

module _ (tells : Tells) (name : List ℕ) (given : Option ℕ) (anchors workers : ℕ) (before after : World) (status : Status) where
  abbrev IsText : List ℕ → Type 0
  IsText = IsRunText tells.source tells.volume before.left after.left before.files after.files name given anchors workers before.counts
      after.counts

  abbrev RunFor : Option ℕ → Type 0
  RunFor size = IsRunFor tells.source tells.volume tells.sink before.left after.left before.files after.files name size anchors workers
      before.source_faults after.source_faults before.sink_faults after.sink_faults before.counts after.counts before.taken after.taken
      status

  plain_run : (IsTrue tells.sink → RunPrints IsText before.taken after.taken status)
      → workers ≡ 1 → IsTrue tells.source → IsTrue tells.volume → IsTrue tells.sink → status ≡ Done
      → NoneFailedServing before.counts after.counts
      → PrintsPlainly before.left before.files after.files name given anchors before.taken after.taken
  plain_run prints one st vt kt done none =
      let told = subst (λ (s : Status). RunPrints IsText before.taken after.taken s) done (prints kt) in
      let run = told.1.run in
      record {
        slot = run.slot;
        found = run.sized.found vt;
        lines = run.lines;
        read = subst (λ (w : ℕ). IsScript w before.left run.lines) one
            (subst (λ (script : List ℕ). IsScript workers script run.lines) (run.read.2 st).0 run.read.1);
        answers = run.answers;
        answered = (run.served.plain one vt none).0;
        printed = told.2 ∙ ap (λ (printed : List ℕ). before.taken ++ printed) told.1.is;
      }

  pub run_does : IsRunFor tells.source tells.volume tells.sink before.left after.left before.files after.files name given anchors workers
      before.source_faults after.source_faults before.sink_faults after.sink_faults before.counts after.counts before.taken after.taken
      status
      → (IsTrue tells.source → IsTrue tells.volume → MayRun before.left before.files name given anchors workers
      → NoFault before.source_faults after.source_faults before.sink_faults after.sink_faults before.counts after.counts
      → RunsOrLacksMemory status)
      → RunEnded before.counts after.counts → IsTakenFrom tells.source before.left after.left
      → ((status ≡ DeviceFault → ⊥) → RunUnfailed before.counts after.counts)
      → RunDoes tells name given anchors workers before after status
  run_does run complete ended taken unfailed = record {
    ends = run.ends;
    says = run.says;
    refused = run.refused;
    complete = complete;
    prints = run.prints;
    leaves = run.leaves;
    recorded = λ slot none t found. run_given found tells.source tells.volume tells.sink before.left after.left after.files anchors workers
        before.source_faults after.source_faults before.sink_faults after.sink_faults before.counts after.counts before.taken after.taken
        status t (subst RunFor none run);
    plain = plain_run run.prints;
    stations = ended;
    script = taken;
    unfailed = unfailed;
  }

-- with one worker whose station met no fault a benchmark prints the line of a plain store
pub plain_bench : (volume_tells : Bool) (files files_after : Files) (name : List ℕ) (seed workers count : ℕ) (before after : Counts)
    (taken taken_after : List ℕ) (status : Status)
    → ReportPrints (IsBenchText volume_tells files files_after name seed workers count before after) taken taken_after status
    → IsTrue volume_tells → status ≡ Done → NoWorkerFailed before after → taken_after ≡ taken ++ plain_line seed workers count
plain_bench volume_tells files files_after name seed workers count before after taken taken_after status prints told done none =
    let printed = subst (λ (s : Status). ReportPrints (IsBenchText volume_tells files files_after name seed workers count before after)
    taken taken_after s) done prints in
    printed.2 ∙ ap (λ (text : List ℕ). taken ++ text) (printed.1.plain told none)
