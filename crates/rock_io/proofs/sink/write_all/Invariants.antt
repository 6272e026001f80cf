use Rattle.std.proofs.Common.{length, ◌-◌, ◌≡◌, ◌≤◌, IsTrue, ◌++◌, take}
use Rattle.rock_io.proofs.sink.write_all.Given as goal

-- the first `done` bytes were taken, and no call failed
abbrev pub invariant-loop-done : goal.invariant-loop-done
invariant-loop-done g l =
    (l.done ≤ length l.bytes)
    × (IsTrue g.K.Sink.tells → g.K.Sink.taken l.out ≡ g.K.Sink.taken l.fn.out ++ take l.done l.bytes)
    × (length l.bytes ≡ 0 → l.out ≡ l.fn.out)
    × (g.K.Sink.faults l.out ≡ g.K.Sink.faults l.fn.out)

abbrev pub decreases-loop-done : goal.decreases-loop-done
decreases-loop-done g l = length l.bytes - l.done
