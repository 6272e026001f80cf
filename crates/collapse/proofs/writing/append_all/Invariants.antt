use Rattle.std.proofs.Common.{length, ◌+◌, ◌-◌, ◌≡◌, ◌≤◌}
use Rattle.rock_writer.specs.Appending.{MayAppend}
use Rattle.rock_writer.specs.Entries.{Entry}
use Rattle.rock_writer.specs.Passes.{FollowsWriting}
use Rattle.collapse.specs.Writing.{Added}
use Rattle.collapse.proofs.writing.append_all.Given as goal

abbrev pub invariant-loop-taken : goal.invariant-loop-taken
invariant-loop-taken g l = record {
  within : l.taken ≤ length l.bytes;
  added : (e : Entry) → MayAppend g.C.Cell.tells g.C.Cell.state g.O.Origin.offers l.store l.tab e l.bytes l.initial.pass → Added g.C.Cell.tells g.C.Cell.state g.O.Origin.offers l.store l.tab e l.initial.pass l.pass (e.taken + l.taken);
  follows : FollowsWriting g.C.Cell.tells g.C.Cell.state g.O.Origin.offers l.store l.tab l.initial.pass l.pass;
  station : g.St.Station.faults l.station ≡ g.St.Station.faults l.initial.station;
}

abbrev pub decreases-loop-taken : goal.decreases-loop-taken
decreases-loop-taken g l = length l.bytes - l.taken
