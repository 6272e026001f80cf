-- A file that is created, or may have been.
use Rattle.std.specs.Prelude.{◌≡◌, ℕ, List}
use Rattle.std.specs.FinMap.{get, insert}
use Rattle.rock_disk.specs.File.{Files, IsNotAway, uncut, zeros}

-- a file of so many zeros was put in, and nothing else may be left of it by a crash
abbrev pub IsCreated : Files → Files → List ℕ → ℕ → Type 0
IsCreated before after name size = after ≡ insert before name (uncut (zeros size))

-- all but this file is as it was, and its cells are not out
pub record IsMaybeCreated (before after : Files) (name : List ℕ) : Type 0 where
  pub others : (other : List ℕ) → (other ≡ name → ⊥) → get after other ≡ get before other
  pub home : IsNotAway (get after name)
