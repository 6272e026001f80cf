-- What a station of a file tells.
use Rattle.std.specs.Prelude.{ℕ}
use Rattle.rock_file.specs.declared.station.FileStation.{FileStation}

-- how many calls failed
abbrev pub station_faults : {F : Type 0} → FileStation F → ℕ
station_faults s = s.faults
