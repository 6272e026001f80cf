use Rattle.std.proofs.Common.{◌≡◌, ℕ, ◌+◌, ◌-◌, ◌≤◌, List, ◌++◌, length, take}
use Rattle.script_text.specs.Reading.{IsReading, IsFront, place_of}
use Rattle.script_text.proofs.reading.Reading.take_bytes.Given as goal

abbrev pub invariant-loop-taken : goal.invariant-loop-taken
invariant-loop-taken l = record {
  reading : IsReading l.self;
  within : l.taken ≤ length l.bytes;
  front : (front : List ℕ) → IsFront l.initial.self front → IsFront l.self (front ++ take l.taken l.bytes);
  workers : l.self.workers ≡ l.initial.self.workers;
  further : place_of l.initial.self + l.taken ≤ place_of l.self;
}

abbrev pub decreases-loop-taken : goal.decreases-loop-taken
decreases-loop-taken l = length l.bytes - l.taken
