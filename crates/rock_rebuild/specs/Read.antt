-- The images that a scan read.
use Rattle.std.specs.Prelude.{◌≡◌, ℕ, zero, suc, Bool, List, [], ◌∷◌, length, map, take, drop, All, IsTrue}
use Rattle.rock_disk.specs.Cell.{CellState}

-- reads of these cells may have given these images: one a cell, each as wide as a slot. Where the cells tell what they
-- hold, they are what the cells held
pub record AreImagesOf (tells : Bool) (slot : ℕ) (cells : List CellState) (images : List (List ℕ)) : Type 0 where
  pub count : length images ≡ length cells
  pub wide : All (λ image. length image ≡ slot) images
  pub told : IsTrue tells → images ≡ map (λ c. c.now) cells

-- the first images of so many bytes each that these bytes have, one behind the other
abbrev pub images_in : ℕ → ℕ → List ℕ → List (List ℕ)
images_in zero slot bytes = []
images_in (suc n) slot bytes = take slot bytes ∷ images_in n slot (drop slot bytes)
