-- What a fault of a volume, a station or a rebuild is told as.
use Rattle.rock_disk.specs.declared.volume.OpenFault.{OpenFault}
use Rattle.rock_disk.specs.declared.volume.OpenFault.TheVariants as opening
use Rattle.rock_disk.specs.declared.volume.StationFault.{StationFault}
use Rattle.rock_disk.specs.declared.volume.StationFault.TheVariants as making
use Rattle.rock_rebuild.specs.declared.outcome.RebuildFault.{RebuildFault}
use Rattle.rock_rebuild.specs.declared.outcome.RebuildFault.TheVariants as rebuilding
use Rattle.rock_open.specs.declared.fault.OpenStoreFault.{OpenStoreFault}
use Rattle.rock_open.specs.declared.fault.OpenStoreFault.TheVariants.{Failed, Memory, Missing, Small}

abbrev pub fault_of_open : OpenFault → OpenStoreFault
fault_of_open opening.Missing = Missing
fault_of_open (opening.Small bytes) = Small bytes
fault_of_open opening.Failed = Failed
fault_of_open opening.Memory = Memory

abbrev pub fault_of_station : StationFault → OpenStoreFault
fault_of_station making.Failed = Failed
fault_of_station making.Memory = Memory

abbrev pub fault_of_rebuild : RebuildFault → OpenStoreFault
fault_of_rebuild rebuilding.Failed = Failed
fault_of_rebuild rebuilding.Memory = Memory
