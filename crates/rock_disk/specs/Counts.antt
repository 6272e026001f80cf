-- What calls on a volume make of its counts: of its faults, of the stations that it made, and of the faults with which these were ended.
use Rattle.std.specs.Prelude.{◌≡◌, ◌⊎◌, ℕ, ◌+◌, ◌<◌, List, [], ◌∷◌, ◌++◌}
use Rattle.rock_io.specs.Faults.{Rose}

pub record Counts : Type 0 where
  pub faults : ℕ
  pub made : ℕ
  pub ended : List ℕ

abbrev pub counted : ℕ → ℕ → List ℕ → Counts
counted faults made ended = record { faults = faults; made = made; ended = ended }

-- those of a volume, by the three members that its kind has
abbrev pub counts : {V : Type 0} → (V → ℕ) → (V → ℕ) → (V → List ℕ) → V → Counts
counts faults made ended volume = counted (faults volume) (made volume) (ended volume)

-- no station was made, and none ended
pub record NoStation (before after : Counts) : Type 0 where
  pub made : after.made ≡ before.made
  pub ended : after.ended ≡ before.ended

-- one station was made, and it was ended with this count of faults
pub record OneStation (count : ℕ) (before after : Counts) : Type 0 where
  pub made : after.made ≡ before.made + 1
  pub ended : after.ended ≡ before.ended ++ count ∷ []

-- one station was made at most, and each that was made was ended
abbrev pub EachEnded : Counts → Counts → Type 0
EachEnded before after = NoStation before after ⊎ ((count : ℕ) × OneStation count before after)

-- the volume failed, or the station that was made
abbrev pub HasFailed : Counts → Counts → Type 0
HasFailed before after = Rose before.faults after.faults ⊎ ((count : ℕ) × OneStation count before after × (0 < count))

-- no call failed: the volume's count of faults is as it was, and if a station was made, it was ended with none
pub record NoneFailed (before after : Counts) : Type 0 where
  pub faults : after.faults ≡ before.faults
  pub station : (count : ℕ) → OneStation count before after → count ≡ 0
