-- How the program ends at a fault of a volume or of a scan.
use Rattle.rock_disk.specs.declared.volume.OpenFault.{OpenFault}
use Rattle.rock_disk.specs.declared.volume.OpenFault.TheVariants as opening
use Rattle.rock_disk.specs.declared.volume.StationFault.{StationFault}
use Rattle.rock_disk.specs.declared.volume.StationFault.TheVariants as station
use Rattle.rock_rebuild.specs.declared.outcome.RebuildFault.{RebuildFault}
use Rattle.rock_rebuild.specs.declared.outcome.RebuildFault.TheVariants as rebuild
use Rattle.rock_status.specs.declared.status.Status.{Status}
use Rattle.rock_status.specs.declared.status.Status.TheVariants.{Memory, DeviceFault, Missing, Small}

abbrev pub status_of_open : OpenFault → Status
status_of_open opening.Missing = Missing
status_of_open (opening.Small bytes) = Small bytes
status_of_open opening.Failed = DeviceFault
status_of_open opening.Memory = Memory

abbrev pub status_of_station : StationFault → Status
status_of_station station.Failed = DeviceFault
status_of_station station.Memory = Memory

abbrev pub status_of_rebuild : RebuildFault → Status
status_of_rebuild rebuild.Failed = DeviceFault
status_of_rebuild rebuild.Memory = Memory
