-- What a command is carried out over.
use Rattle.std.specs.Prelude.{Bool, List, ℕ}
use Rattle.rock_disk.specs.Counts.{Counts, counted}
use Rattle.rock_disk.specs.File.{Files}

-- The files, the output and the script, as they are before or after a command.
pub record World : Type 0 where
  -- The files of the volume, by name,
  pub files : Files
  -- and its counts: of its faults, of the stations that it made, and of the faults with which these were ended.
  pub counts : Counts
  -- What the sink has taken, in order, and how many of its calls have failed.
  pub taken : List ℕ
  pub sink_faults : ℕ
  -- What is left of the script, and how many calls of its source have failed.
  pub left : List ℕ
  pub source_faults : ℕ

-- that of a volume, a sink and a source, by the members that their kinds have
abbrev pub world_of : {V K S : Type 0} → (V → Files) → (V → ℕ) → (V → ℕ) → (V → List ℕ) → (K → List ℕ) → (K → ℕ) → (S → List ℕ) → (S → ℕ)
    → V → K → S → World
world_of files faults made ended taken sink_faults left source_faults volume out script = record {
  files = files volume;
  counts = counted (faults volume) (made volume) (ended volume);
  taken = taken out;
  sink_faults = sink_faults out;
  left = left script;
  source_faults = source_faults script;
}

-- Which of the three tell what they hold. Of what is not told nothing is said.
pub record Tells : Type 0 where
  -- the volume tells its files
  pub volume : Bool
  -- the sink tells what it took
  pub sink : Bool
  -- the source tells what is left of the script
  pub source : Bool

abbrev pub telling : (volume sink source : Bool) → Tells
telling volume sink source = record { volume = volume; sink = sink; source = source }
