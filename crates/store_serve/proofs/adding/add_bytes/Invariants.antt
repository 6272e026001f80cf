use Rattle.std.proofs.Common.{◌-◌, ◌≡◌, ◌≤◌}
use Rattle.plain_model.specs.Serving.{bytes_of}
use Rattle.rock_writer.specs.Durable.{LoggedSoFar}
use Rattle.rock_writer.specs.Entries.{Entry}
use Rattle.rock_writer.specs.Passes.{FollowsWriting}
use Rattle.store_rule.specs.Passes.{basis, view}
use Rattle.store_serve.specs.Adding.{Added, MayAdd, taken_on}
use Rattle.store_serve.proofs.adding.add_bytes.Given as goal

abbrev pub invariant-loop-taken : goal.invariant-loop-taken
invariant-loop-taken g l = record {
  over : l.from ≤ l.taken;
  under : l.taken ≤ l.upto;
  added : (e : Entry) → MayAdd g.C.Cell.tells g.C.Cell.state g.O.Origin.offers l.store l.tab e (bytes_of l.body) l.from l.upto l.initial.pass → Added g.C.Cell.tells g.C.Cell.state g.O.Origin.offers l.store l.tab e l.initial.pass l.pass (l.taken - l.from);
  durable : (e : Entry) → MayAdd g.C.Cell.tells g.C.Cell.state g.O.Origin.offers l.store l.tab e (bytes_of l.body) l.from l.upto l.initial.pass → LoggedSoFar (basis g.C.Cell.tells g.C.Cell.state g.O.Origin.offers l.store) e (view l.initial.pass) → LoggedSoFar (basis g.C.Cell.tells g.C.Cell.state g.O.Origin.offers l.store) (taken_on e (l.taken - l.from)) (view l.pass);
  follows : FollowsWriting g.C.Cell.tells g.C.Cell.state g.O.Origin.offers l.store l.tab l.initial.pass l.pass;
  station : g.St.Station.faults l.station ≡ g.St.Station.faults l.initial.station;
}

abbrev pub decreases-loop-taken : goal.decreases-loop-taken
decreases-loop-taken g l = l.upto - l.taken
