-- The stations that a volume made and ended.
use Rattle.std.specs.Prelude.{ℕ, List}
use Rattle.rock_disk.specs.declared.stations.Stations.{Stations}

-- how many were made
abbrev pub made_of : Stations → ℕ
made_of stations = stations.made

-- the counts of faults with which they were ended, in that order
abbrev pub ended_of : Stations → List ℕ
ended_of stations = stations.ended.items
