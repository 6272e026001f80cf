-- What a crash leaves of cells.
use Rattle.std.specs.Prelude.{◌≡◌, ◌⊎◌, ◌↔◌, ℕ, ◌<◌, List, [], ◌∷◌, length, map, get_or, Contains}
use Rattle.rock_disk.specs.Cell.{CellState}

-- a crash may leave what a read gives
abbrev pub NowMayStay : CellState → Type 0
NowMayStay c = Contains c.possible c.now

-- a crash leaves what a read gives
abbrev pub IsSettled : CellState → Type 0
IsSettled c = c.possible ≡ c.now ∷ []

-- the image takes, cell by cell, one of the contents that a crash may leave
pub record IsCrashImage (cells : List CellState) (image : List (List ℕ)) : Type 0 where
  pub count : length image ≡ length cells
  pub each : (place : ℕ) → place < length cells → Contains (get_or (map (λ c. c.possible) cells) place []) (get_or image place [])

-- a crash may leave what it might before, and these bytes
abbrev pub KeepsAndAdds : List ℕ → CellState → CellState → Type 0
KeepsAndAdds bytes before after = (content : List ℕ) → (Contains after.possible content ↔ (Contains before.possible content ⊎ (content ≡ bytes)))
