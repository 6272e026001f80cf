use Rattle.std.proofs.Common.{◌≡◌, ◌≤◌, ◌-◌, ◌*◌, ◌++◌, length, map}
use Rattle.rock_disk.specs.File.{slots_from}
use Rattle.rock_disk.specs.Memory.{cell_state}
use Rattle.rock_disk.proofs.memory.cutting.cut_slots.Given as goal

abbrev pub invariant-loop-number : goal.invariant-loop-number
invariant-loop-number l = record {
  room : (l.count - l.number) * l.slot ≤ length l.rest;
  cut : map cell_state l.cells.items ++ slots_from l.number (l.count - l.number) l.slot l.rest ≡ slots_from 0 l.count l.slot l.initial.rest;
}
