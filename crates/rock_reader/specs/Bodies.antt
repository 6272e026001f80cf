-- What a slot that was read adds to the body of the entry that is wanted.
use Rattle.std.specs.Prelude.{List, [], drop, length, suc, zero, ◌≡◌, ◌≢◌, ◌≤◌, take, ℕ}
use Rattle.slot_cell.specs.Header.{IsSane, header_of, payload_of}
use Rattle.slot_cell.specs.declared.header.TheConstants.{HEADER_SIZE}
use Rattle.swap_meta.specs.Meta.{Spells, whole_length}

-- metadata with this URL stand in front
pub record HasUrl (payload url : List ℕ) : Type 0 where
  pub key : List ℕ
  pub size : ℕ
  pub spelled : Spells (take size payload) key url size

-- The image of the slot at this place is one of an entry of this URL, as far as it tells: it is sane in a file of so many slots, and the
-- first one begins with metadata that have the URL.
pub record IsOfEntry (image : List ℕ) (slots place : ℕ) (url : List ℕ) : Type 0 where
  pub long : HEADER_SIZE ≤ length image
  pub sane : IsSane (header_of image) slots (length image)
  pub named : place ≡ 0 → (url ≢ []) × HasUrl (payload_of image) url

-- what it adds to the body
abbrev pub body_of : (image : List ℕ) (place : ℕ) → List ℕ
body_of image zero = drop (whole_length (payload_of image)) (payload_of image)
body_of image (suc place) = payload_of image
