-- What is kept of the slots that were read.
use Rattle.std.specs.Prelude.{◌≡◌, ℕ, ◌+◌, ◌<◌, ◌≤◌, pos, List, length, take, drop, slice_index_or, Option, None, MatchOption}
use Rattle.slot_cell.specs.declared.header.Header.{Header}
use Rattle.slot_cell.specs.declared.header.TheConstants.{HEADER_SIZE}
use Rattle.slot_cell.specs.Header.{header_of, header_bytes, payload_of, IsSane}
use Rattle.rebuild_model.specs.Image.{image_at}
use Rattle.swap_meta.specs.Meta.{Spells}
use Rattle.store_key.specs.Url.{IsUrl}
use Rattle.rock_rebuild.specs.declared.entry_head.Head.{Head}

-- the header of a slot that is sane in a file of so many slots of so many bytes
pub record IsHeaderOf (slots slot : ℕ) (image : List ℕ) (header : Header) : Type 0 where
  pub is : header ≡ header_of image
  pub spelled : header_bytes header ≡ take HEADER_SIZE image
  pub sane : IsSane header slots slot

-- it, or none where the slot is not sane
abbrev pub TellsHeader : ℕ → ℕ → List ℕ → Option Header → Type 0
TellsHeader slots slot image header = MatchOption header (IsSane (header_of image) slots slot → ⊥) (IsHeaderOf slots slot image)

-- metadata of this length stands in front of a payload, with a URL and the slot's key
pub record IsOwn (image payload key url : List ℕ) (size : ℕ) : Type 0 where
  pub meta : Spells (take size payload) key url size
  pub slot_key : key ≡ take 16 image
  pub checked : IsUrl url

-- and no other metadata does
pub record IsOwnAlone (image payload key url : List ℕ) (size : ℕ) : Type 0 where
  pub own : IsOwn image payload key url size
  pub only : (other_key other_url : List ℕ) (n : ℕ) → Spells (take n payload) other_key other_url n → (other_key ≡ key) × (other_url ≡ url)

-- the slot of this number names itself first, and in front of its payload stands metadata of this length, with this URL and
-- the slot's key
pub record SaysHead (number : ℕ) (image url : List ℕ) (size : ℕ) : Type 0 where
  pub starts : (header_of image).first_slot ≡ pos number
  pub alone : IsOwnAlone image (payload_of image) (take 16 image) url size

-- the URL that a head tells of, in the buffer of URLs
abbrev pub url_in : List ℕ → Head → List ℕ
url_in urls head = take head.size (drop head.from urls)

-- the slot says what this head tells
pub record IsHead (number : ℕ) (image urls : List ℕ) (head : Head) : Type 0 where
  pub within : head.from + head.size ≤ length urls
  pub says : SaysHead number image (url_in urls head) head.length

-- it does not, or none does
abbrev pub HasNoHead : ℕ → List ℕ → Type 0
HasNoHead number image = (key url : List ℕ) (size : ℕ) → (header_of image).first_slot ≡ pos number → IsOwn image (payload_of image) key url size → ⊥

-- what a slot says of an entry that begins there, or none where it is not sane or says nothing
abbrev pub TellsHead : ℕ → ℕ → ℕ → (image urls : List ℕ) → Option Head → Type 0
TellsHead slots slot number image urls head = MatchOption head (IsSane (header_of image) slots slot → HasNoHead number image) (IsHead number image urls)

-- the greatest version of a sane one among these slots, or 0 where none is
pub record IsGreatestOf (slots slot : ℕ) (images : List (List ℕ)) (greatest : ℕ) : Type 0 where
  pub above : (k : ℕ) → k < length images → IsSane (header_of (image_at images k)) slots slot → (header_of (image_at images k)).version ≤ greatest
  pub there : 0 < greatest → (k : ℕ) × (k < length images) × IsSane (header_of (image_at images k)) slots slot × ((header_of (image_at images k)).version ≡ greatest)

-- these are the headers of the first slots of a file
pub record AreHeaders (slots slot : ℕ) (images : List (List ℕ)) (headers : List (Option Header)) : Type 0 where
  pub count : length headers ≡ length images
  pub each : (k : ℕ) → k < length images → TellsHeader slots slot (image_at images k) (slice_index_or headers k None)

-- and these say what entries begin there
pub record AreHeads (slots slot : ℕ) (images : List (List ℕ)) (urls : List ℕ) (heads : List (Option Head)) : Type 0 where
  pub count : length heads ≡ length images
  pub each : (k : ℕ) → k < length images → TellsHead slots slot k (image_at images k) urls (slice_index_or heads k None)
