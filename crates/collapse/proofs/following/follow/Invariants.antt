use Rattle.std.proofs.Common.{length, ◌<◌, ◌≡◌}
use Rattle.core_model.specs.Tabs.{inner, tab_at}
use Rattle.store_rule.specs.Passes.{view}
use Rattle.rock_reader.specs.Reading.{ReadsAs, Standing}
use Rattle.rock_reader.specs.Wanted.{FollowsReader}
use Rattle.collapse.proofs.Turns.{HasFollowed}
use Rattle.collapse.proofs.following.follow.Given as goal

abbrev pub invariant-loop : goal.invariant-loop
invariant-loop g l = record {
  next : (goal.iterator-loop g).can_next l.iterator';
  finite : (goal.iterator-loop g).is_finite l.iterator';
  room : length l.buf ≡ length l.initial.buf;
  read : (e : Standing) → ReadsAs g.C.Cell.tells g.C.Cell.state g.O.Origin.offers l.store l.initial.pass l.tab e
      → HasFollowed g.C.Cell.tells g.C.Cell.state g.O.Origin.offers l.store l.tab e l.initial.pass l.pass g.K.Sink.tells (g.K.Sink.taken l.initial.out) (g.K.Sink.taken l.out) l.looks l.times l.is_late;
  fewer : l.times < l.most;
  follows : FollowsReader g.C.Cell.tells g.C.Cell.state g.O.Origin.offers l.store l.tab l.initial.pass l.pass;
  inner : tab_at (view l.pass) inner ≡ tab_at (view l.initial.pass) inner;
  station : g.St.Station.faults l.station ≡ g.St.Station.faults l.initial.station;
  sink : g.K.Sink.faults l.out ≡ g.K.Sink.faults l.initial.out;
}
