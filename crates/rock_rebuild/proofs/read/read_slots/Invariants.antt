use Rattle.std.proofs.Common.{◌≡◌, ◌*◌, ◌-◌, drop, length}
use Rattle.rock_rebuild.proofs.Cells.{SoFar}
use Rattle.rock_rebuild.proofs.read.read_slots.Given as goal

abbrev pub invariant-loop-next : goal.invariant-loop-next
invariant-loop-next g l =
    SoFar g.St.C.Cell.state g.St.C.Cell.tells l.cells l.slots l.slot l.next
    × (l.rest ≡ drop l.next l.cells) × (length l.images.items ≡ l.most * l.slot) × (g.St.Station.faults l.station ≡ g.St.Station.faults l.initial.station)

abbrev pub decreases-loop-next : goal.decreases-loop-next
decreases-loop-next g l = l.count - l.next
