-- What callers see of a sink over a writer of std.
use Rattle.std.specs.Prelude.{ℕ}
use Rattle.rock_io.specs.declared.std_sink.StdSink.{StdSink}

-- the writer
abbrev pub inner_of : {W : Type 0} → StdSink W → W
inner_of sink = sink.inner

-- how many calls failed
abbrev pub faults_of : {W : Type 0} → StdSink W → ℕ
faults_of sink = sink.faults
