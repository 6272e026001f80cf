use Rattle.std.proofs.Common.{◌≡◌, length, map, take}
use Rattle.rock_disk.specs.Cell.{joined}
use Rattle.rock_disk.specs.Memory.{NoneFails, called_by, cell_state, station_faults, station_plan}
use Rattle.rock_disk.specs.Reads.{width_of}
use Rattle.rock_disk.proofs.memory.station.MemStationStation.read_cells.Given as goal

abbrev pub invariant-loop-place : goal.invariant-loop-place
invariant-loop-place l = record {
  called : station_plan l.self ≡ called_by l.place (station_plan l.initial.self);
  passed : NoneFails l.place (station_plan l.initial.self);
  faults : station_faults l.self ≡ station_faults l.initial.self;
  long : length l.buf ≡ length l.initial.buf;
  ends : l.end ≡ width_of (take l.place (map cell_state l.cells));
  front : take l.end l.buf ≡ joined (take l.place (map cell_state l.cells));
}
