-- What the plain program tells of a slot and of a chain.
use Rattle.std.specs.Prelude.{◌≡◌, ℕ, ◌+◌, List, sum_by, take}
use Rattle.slot_cell.specs.declared.header.TheConstants.{HEADER_SIZE}
use Rattle.swap_meta.specs.Meta.{Spells}
use Rattle.store_key.specs.Key.{key_of}
use Rattle.store_key.specs.Url.{IsUrl}
use Rattle.rebuild_model.specs.Image.{header_at}
use Rattle.rebuild_model.specs.Entry.{AllButLast, OfLast, Entry, IsComplete, found_of}
use Rattle.rebuild_model.specs.declared.found.Found.{Found}

-- the slot is full
abbrev pub IsFull : ℕ → List (List ℕ) → ℕ → Type 0
IsFull slot images s = (header_at images s).payload_size + HEADER_SIZE ≡ slot

-- how many bytes of the entry a slot has
abbrev pub size_at : List (List ℕ) → ℕ → ℕ
size_at images s = (header_at images s).payload_size

-- all slots but the last are full, and the last one has the size of the whole
pub record IsWhole (slot : ℕ) (images : List (List ℕ)) (chain : List ℕ) : Type 0 where
  pub full : AllButLast (IsFull slot images) chain
  pub size : OfLast (λ s. (header_at images s).entry_size ≡ sum_by (size_at images) chain) chain

-- metadata of this length stands in front of a payload, with a URL and that URL's key, which is the slot's too
pub record IsNamed (image payload key url : List ℕ) (size : ℕ) : Type 0 where
  pub meta : Spells (take size payload) key url size
  pub slot_key : key ≡ take 16 image
  pub key_of_url : key ≡ key_of url
  pub checked : IsUrl url

-- this is the complete entry at slot `first`
pub record IsFound (slot : ℕ) (images : List (List ℕ)) (first : ℕ) (found : Found) : Type 0 where
  pub entry : Entry
  pub complete : IsComplete slot images entry
  pub begins : entry.first ≡ first
  pub told : found ≡ found_of entry

-- there is none
abbrev pub HasNoEntry : ℕ → List (List ℕ) → ℕ → Type 0
HasNoEntry slot images first = (e : Entry) → IsComplete slot images e → e.first ≡ first → ⊥
