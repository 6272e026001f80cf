-- The stations of a benchmark: that of the header area of its file, and behind it those of the run over the file.
use Rattle.std.specs.Prelude.{List, [], ◌+◌, ◌++◌, ◌∷◌, ◌≡◌, ◌⊎◌, ℕ}
use Rattle.rock_disk.specs.Counts.{Counts, NoStation, counted, EachEnded, HasFailed}
use Rattle.rock_run.specs.Device.{RunEnded, RunFailed, RunUnfailed}

-- The counts with which the run begins: the file was made, the volume did not fail, and the station of the header area was ended with no
-- fault.
abbrev pub made_counts : Counts → Counts
made_counts before = counted before.faults (before.made + 1) (before.ended ++ 0 ∷ [])

-- Each station that was made was ended: none, or that of the header area; or that, with no fault, and then those of the run.
abbrev pub BenchEnded : Counts → Counts → Type 0
BenchEnded before after = EachEnded before after ⊎ RunEnded (made_counts before) after

-- the volume failed, or the station of the header area, or that of the rebuild
abbrev pub BenchFailed : Counts → Counts → Type 0
BenchFailed before after = HasFailed before after ⊎ RunFailed (made_counts before) after

-- no station was made, or that of the header area alone
abbrev pub NoneBehind : Counts → Counts → Type 0
NoneBehind before after = NoStation before after ⊎ NoStation (made_counts before) after

-- The volume's count of faults is as it was, the first station that was ended was so with none, and so was that of the rebuild.
pub record BenchUnfailed (before after : Counts) : Type 0 where
  -- The volume met no fault,
  pub faults : after.faults ≡ before.faults
  -- nor did the station of the header area,
  pub header : (count : ℕ) (others : List ℕ) → after.ended ≡ before.ended ++ count ∷ others → count ≡ 0
  -- nor the volume in the run, nor the station of the rebuild.
  pub rebuild : RunUnfailed (made_counts before) after
