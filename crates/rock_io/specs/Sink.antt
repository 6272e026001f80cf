-- What a sink took.
use Rattle.std.specs.Prelude.{◌≡◌, ℕ, ◌≤◌, List, ◌++◌, length, take}

-- of the bytes, a first part was taken, maybe none and maybe all of them
abbrev pub TakesPrefix : List ℕ → List ℕ → List ℕ → Type 0
TakesPrefix old new bytes = (n : ℕ) × (n ≤ length bytes) × (new ≡ old ++ take n bytes)
