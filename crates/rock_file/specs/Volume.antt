-- What a volume over the files of the system tells.
use Rattle.std.specs.Prelude.{ℕ, List}
use Rattle.rock_disk.specs.Stations.{made_of, ended_of}
use Rattle.rock_file.specs.declared.volume.FileVolume.{FileVolume}

-- how many calls failed
abbrev pub volume_faults : {R File Dir : Type 0} → FileVolume R File Dir → ℕ
volume_faults v = v.faults

-- how many stations were made, and the counts of faults with which they were ended
abbrev pub volume_made : {R File Dir : Type 0} → FileVolume R File Dir → ℕ
volume_made v = made_of v.stations

abbrev pub volume_ended : {R File Dir : Type 0} → FileVolume R File Dir → List ℕ
volume_ended v = ended_of v.stations
