-- What callers see of a source over a reader of std.
use Rattle.std.specs.Prelude.{ℕ}
use Rattle.rock_io.specs.declared.std_source.StdSource.{StdSource}

-- the reader
abbrev pub inner_of : {R : Type 0} → StdSource R → R
inner_of source = source.inner

-- how many calls failed
abbrev pub faults_of : {R : Type 0} → StdSource R → ℕ
faults_of source = source.faults
