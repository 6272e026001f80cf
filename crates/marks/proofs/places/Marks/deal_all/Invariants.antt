use Rattle.std.proofs.Common.{◌≡◌, vec_len}
use Rattle.marks.specs.Seats.{IsSeatOf, AreDealt}
use Rattle.marks.proofs.Dealing.{gets, HasRest}
use Rattle.marks.proofs.places.Marks.deal_all.Given as goal

abbrev pub ghosts-deal : goal.ghosts-deal
ghosts-deal g a = record { picks = gets a.setters.now a.worker }

abbrev pub invariant-loop-worker : goal.invariant-loop-worker
invariant-loop-worker g l = (vec_len l.seats ≡ l.worker) × IsSeatOf l.self l.first × HasRest l.setters l.worker l.first.seat.me.0 × AreDealt l.self l.setters l.seats.items
