-- What a refused run leaves of its file.
use Rattle.std.proofs.Common.{Bool, IsTrue, List, inl, inr, ◌⊎◌, ℕ}
use Rattle.rock_disk.specs.Cell.{CellState}
use Rattle.rock_disk.specs.File.{Files}
use Rattle.rock_open.specs.declared.fault.OpenStoreFault.{OpenStoreFault}
use Rattle.rock_open.specs.declared.fault.OpenStoreFault.TheVariants.{BadGeometry, Failed, Memory, Missing, Small}
use Rattle.rock_disk.specs.Counts.{Counts}
use Rattle.rock_run.specs.Faults.{status_of_run}
use Rattle.rock_run.specs.Runs.{HasClosed, RefusalLeaves}
use Rattle.run_rules.specs.Left.{IsGivenBack}
use Rattle.script_text.specs.declared.line.Line.{Line}
use Rattle.bench_command.specs.Leaves.{RunClosed, RunKept, RunLeaves}
use Rattle.bench_command.specs.Numbers.{anchors_for, slot_size}

module _ {C : Type 0} (volume_tells tells : Bool) (state : C → CellState) (before after : Files) (name : List ℕ) (workers : ℕ) (lines : List Line) where
  -- the file was opened as a store, and the store was closed
  abbrev pub StoreClosed : Type 0
  StoreClosed = HasClosed volume_tells tells state before after name slot_size (anchors_for workers) workers lines

  module _ (back : IsTrue volume_tells → StoreClosed → IsGivenBack before after name slot_size lines) (counted counted_after : Counts) where
    either : RunKept volume_tells before after name workers lines ⊎ StoreClosed → RunKept volume_tells before after name workers lines ⊎ RunClosed volume_tells before after name workers lines
    either (inl kept) = inl kept
    either (inr closed) = inr (λ told. back told closed)

    pub refused_leaves : (fault : OpenStoreFault) → RefusalLeaves (RunKept volume_tells before after name workers lines) StoreClosed fault
        → RunLeaves volume_tells before after name workers lines counted counted_after (status_of_run fault)
    refused_leaves (BadGeometry field) h = h
    refused_leaves Missing h = h
    refused_leaves (Small bytes) h = h
    refused_leaves Failed h = either h
    refused_leaves Memory h = either h
