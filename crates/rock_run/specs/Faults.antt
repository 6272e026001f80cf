-- How a command ends whose run was refused.
use Rattle.rock_open.specs.declared.fault.OpenStoreFault.{OpenStoreFault}
use Rattle.rock_open.specs.declared.fault.OpenStoreFault.TheVariants as running
use Rattle.rock_status.specs.declared.status.Status.{Status}
use Rattle.rock_status.specs.declared.status.Status.TheVariants.{BadGeometry, DeviceFault, Memory, Missing, Small}

abbrev pub status_of_run : OpenStoreFault → Status
status_of_run (running.BadGeometry field) = BadGeometry field
status_of_run running.Missing = Missing
status_of_run (running.Small bytes) = Small bytes
status_of_run running.Failed = DeviceFault
status_of_run running.Memory = Memory
