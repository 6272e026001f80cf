use Rattle.std.proofs.Common.{List, length, ◌++◌, ◌≡◌, ℕ}
use Rattle.collapse.specs.Sending.{Sends}
use Rattle.collapse.proofs.sending.send_rest.Given as goal

abbrev pub invariant-loop-count : goal.invariant-loop-count
invariant-loop-count g l = record {
  room : length l.buf ≡ length l.initial.buf;
  sent : (bytes : List ℕ) × (g.F.Fetcher.left l.initial.fetcher ≡ bytes ++ g.F.Fetcher.left l.fetcher) × Sends g.K.Sink.tells (g.K.Sink.taken l.initial.out) (g.K.Sink.taken l.out) bytes;
  starts : g.F.Fetcher.starts l.fetcher ≡ g.F.Fetcher.starts l.initial.fetcher;
  fetch : g.F.Fetcher.faults l.fetcher ≡ g.F.Fetcher.faults l.initial.fetcher;
  sink : g.K.Sink.faults l.out ≡ g.K.Sink.faults l.initial.out;
}

abbrev pub decreases-loop-count : goal.decreases-loop-count
decreases-loop-count g l = length (g.F.Fetcher.left l.fetcher)
