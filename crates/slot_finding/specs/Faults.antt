-- How a command ends that looks for a slot size.
use Rattle.std.specs.Prelude.{◌≡◌, ◌⊎◌}
use Rattle.rock_status.specs.declared.status.Status.{Status}
use Rattle.rock_status.specs.declared.status.Status.TheVariants.{BadGeometry, DeviceFault, Memory, Missing, Small}
use Rattle.slot_finding.specs.declared.finding.FindFault.{FindFault}
use Rattle.slot_finding.specs.declared.finding.FindFault.TheVariants as finding

-- where none is found
abbrev pub status_of_find : FindFault → Status
status_of_find finding.Missing = Missing
status_of_find (finding.Small bytes) = Small bytes
status_of_find (finding.BadGeometry field) = BadGeometry field
status_of_find finding.Failed = DeviceFault
status_of_find finding.Memory = Memory

-- the status is this one, unless the disk failed or memory was wanting
abbrev pub OrFailed : (due status : Status) → Type 0
OrFailed due status = (status ≡ due) ⊎ ((status ≡ DeviceFault) ⊎ (status ≡ Memory))
