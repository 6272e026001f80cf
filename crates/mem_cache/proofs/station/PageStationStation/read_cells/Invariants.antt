use Rattle.std.proofs.Common.{◌≡◌, length, map, take}
use Rattle.rock_disk.specs.Cell.{joined}
use Rattle.rock_disk.specs.Reads.{width_of}
use Rattle.mem_cache.specs.Cell.{cell_state}
use Rattle.mem_cache.proofs.station.PageStationStation.read_cells.Given as goal

abbrev pub invariant-loop-place : goal.invariant-loop-place
invariant-loop-place g l = record {
  long : length l.buf ≡ length l.initial.buf;
  ends : l.end ≡ width_of (take l.place (map cell_state l.cells));
  front : take l.end l.buf ≡ joined (take l.place (map cell_state l.cells));
}
