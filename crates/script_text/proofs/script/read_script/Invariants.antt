use Rattle.std.proofs.Common.{◌≡◌, ◌≤◌, ◌-◌, ℕ, ◌++◌, List}
use Rattle.std.specs.Prelude.{vec_len, IsTrue}
use Rattle.script_text.specs.Reading.{IsReading, IsFront, place_of}
use Rattle.script_text.proofs.script.read_script.Given as goal

-- the bytes that were taken so far are the front of the text
abbrev pub invariant-script : goal.invariant-script
invariant-script g l = record {
  buffer : vec_len l.buf ≡ 8192;
  reading : IsReading l.reading;
  workers : l.reading.workers ≡ l.fn.workers;
  front : (front : List ℕ) × IsFront l.reading front × (IsTrue g.S.Source.tells → g.S.Source.left l.fn.src ≡ front ++ g.S.Source.left l.src);
  faults : g.S.Source.faults l.src ≡ g.S.Source.faults l.fn.src;
}

-- each byte takes the reading further, and no reading goes past the limits
abbrev pub decreases-script : goal.decreases-script
decreases-script g l = 33566720 - place_of l.reading
