-- What commands do alike.
use Rattle.std.specs.Prelude.{◌≡◌, ◌≤◌}
use Rattle.rock_io.specs.Faults.{Rose}
use Rattle.rock_disk.specs.Counts.{EachEnded, NoneFailed}
use Rattle.rock_status.specs.declared.status.Status.{Status}
use Rattle.rock_status.specs.declared.status.Status.TheVariants.{DeviceFault, SinkFault, SourceFault}
use Rattle.rock_commands.specs.World.{World}

-- A fault is told as a fault.
pub record FaultsAreTold (before after : World) (status : Status) : Type 0 where
  -- No count of faults falls.
  pub faults : before.counts.faults ≤ after.counts.faults
  pub sink_faults : before.sink_faults ≤ after.sink_faults
  pub source_faults : before.source_faults ≤ after.source_faults
  -- At any status but that of a fault of the volume, of the sink or of the source its count is as it was.
  pub volume_unfailed : (status ≡ DeviceFault → ⊥) → after.counts.faults ≡ before.counts.faults
  pub sink_unfailed : (status ≡ SinkFault → ⊥) → after.sink_faults ≡ before.sink_faults
  pub source_unfailed : (status ≡ SourceFault → ⊥) → after.source_faults ≡ before.source_faults
  -- At that of a fault of the sink or of the source its count rose. At that of a fault of the disk it was the volume's that rose, or that
  -- of a station: this each command says by itself.
  pub sink_failed : status ≡ SinkFault → Rose before.sink_faults after.sink_faults
  pub source_failed : status ≡ SourceFault → Rose before.source_faults after.source_faults

-- It made one station at most.
pub record MakesOneAtMost (before after : World) (status : Status) : Type 0 where
  -- The station was ended,
  pub ended : EachEnded before.counts after.counts
  -- and at any status but that of a fault of the disk it was ended with none.
  pub unfailed : (status ≡ DeviceFault → ⊥) → NoneFailed before.counts after.counts

-- It did not read the script.
pub record LeavesScript (before after : World) : Type 0 where
  -- All that was left of it is left.
  pub left : after.left ≡ before.left
  -- No call of its source failed.
  pub faults : after.source_faults ≡ before.source_faults
