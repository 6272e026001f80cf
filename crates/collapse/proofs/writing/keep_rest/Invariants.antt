use Rattle.std.proofs.Common.{length, ◌≡◌}
use Rattle.rock_writer.specs.Entries.{Entry}
use Rattle.rock_writer.specs.Passes.{FollowsWriting}
use Rattle.collapse.specs.Writing.{MayTake}
use Rattle.collapse.proofs.Takes.{HasKept}
use Rattle.collapse.proofs.writing.keep_rest.Given as goal

abbrev pub invariant-loop-count : goal.invariant-loop-count
invariant-loop-count g l = record {
  room : length l.buf ≡ length l.initial.buf;
  kept : (e : Entry) → MayTake g.C.Cell.tells g.C.Cell.state g.O.Origin.offers l.store l.tab e (g.F.Fetcher.left l.initial.fetcher) l.initial.pass
      → HasKept g.C.Cell.tells g.C.Cell.state g.O.Origin.offers l.store l.tab e l.initial.pass l.pass g.K.Sink.tells (g.K.Sink.taken l.initial.out) (g.K.Sink.taken l.out) (g.F.Fetcher.left l.initial.fetcher) (g.F.Fetcher.left l.fetcher);
  follows : FollowsWriting g.C.Cell.tells g.C.Cell.state g.O.Origin.offers l.store l.tab l.initial.pass l.pass;
  starts : g.F.Fetcher.starts l.fetcher ≡ g.F.Fetcher.starts l.initial.fetcher;
  fetch : g.F.Fetcher.faults l.fetcher ≡ g.F.Fetcher.faults l.initial.fetcher;
  sink : g.K.Sink.faults l.out ≡ g.K.Sink.faults l.initial.out;
  station : g.St.Station.faults l.station ≡ g.St.Station.faults l.initial.station;
}

abbrev pub decreases-loop-count : goal.decreases-loop-count
decreases-loop-count g l = length (g.F.Fetcher.left l.fetcher)
