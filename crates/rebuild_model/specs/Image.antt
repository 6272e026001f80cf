-- The slots of a file, by their images. The first argument is how many bytes a slot has.
use Rattle.std.specs.Prelude.{◌≡◌, ℕ, ◌<◌, ◌≤◌, pos, negsuc, List, [], ◌∷◌, length, take, slice_index_or, All}
use Rattle.db_layout.specs.declared.layout.TheConstants.{MOST_SLOTS}
use Rattle.slot_cell.specs.declared.header.Header.{Header}
use Rattle.slot_cell.specs.declared.header.TheConstants.{HEADER_SIZE}
use Rattle.slot_cell.specs.Header.{header_of, payload_of, IsSane}

-- the images of the slots of a file of the program's limits
pub record IsFile (slot : ℕ) (images : List (List ℕ)) : Type 0 where
  pub few : length images ≤ MOST_SLOTS
  pub sized : HEADER_SIZE ≤ slot
  pub wide : All (λ image. length image ≡ slot) images

-- the image of slot s
abbrev pub image_at : List (List ℕ) → ℕ → List ℕ
image_at images s = slice_index_or images s []

-- the header of slot s, its key and its payload
abbrev pub header_at : List (List ℕ) → ℕ → Header
header_at images s = header_of (image_at images s)

abbrev pub key_at : List (List ℕ) → ℕ → List ℕ
key_at images s = take 16 (image_at images s)

abbrev pub payload_at : List (List ℕ) → ℕ → List ℕ
payload_at images s = payload_of (image_at images s)

-- slot s is there and sane
pub record IsSaneAt (slot : ℕ) (images : List (List ℕ)) (s : ℕ) : Type 0 where
  pub within : s < length images
  pub sane : IsSane (header_at images s) (length images) slot

-- slot t is a sane slot of the entry that begins at slot s: it has that slot's key and version, and names that slot first
pub record BelongsTo (slot : ℕ) (images : List (List ℕ)) (s t : ℕ) : Type 0 where
  pub sane : IsSaneAt slot images t
  pub key : key_at images t ≡ key_at images s
  pub version : (header_at images t).version ≡ (header_at images s).version
  pub first : (header_at images t).first_slot ≡ pos s

-- each of these slots goes on in the next, and the last in none
abbrev pub Links : List (List ℕ) → List ℕ → Type 0
Links images [] = ⊥
Links images (s ∷ []) = (header_at images s).next_slot ≡ negsuc 0
Links images (s ∷ t ∷ rest) = ((header_at images s).next_slot ≡ pos t) × Links images (t ∷ rest)

-- the greatest version of a sane slot, or 0 where none is
pub record IsGreatest (slot : ℕ) (images : List (List ℕ)) (greatest : ℕ) : Type 0 where
  pub above : (s : ℕ) → IsSaneAt slot images s → (header_at images s).version ≤ greatest
  pub there : 0 < greatest → (s : ℕ) × IsSaneAt slot images s × ((header_at images s).version ≡ greatest)
