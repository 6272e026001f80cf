-- The content of an entry, and how it is cut into slots.
use Rattle.std.specs.Prelude.{ℕ, ◌+◌, ◌-◌, ◌*◌, ◌/◌, ◌==◌, ◌≤◌, cond, ℤ, pos, List, ◌++◌, length, take, drop}
use Rattle.std.specs.Int.{w64, from_le_bytes}
use Rattle.slot_cell.specs.Header.{slot_image}
use Rattle.slot_cell.specs.declared.header.Header.{Header}
use Rattle.slot_cell.specs.declared.header.TheConstants.{HEADER_SIZE}
use Rattle.store_key.specs.Key.{key_of}
use Rattle.swap_meta.specs.Meta.{meta_bytes}
use Rattle.swap_meta.specs.declared.writing.TheConstants.{META_SIZE}

-- metadata with the URL and its key, and then the body
abbrev pub content_of : (url body : List ℕ) → List ℕ
content_of url body = meta_bytes (key_of url) url ++ body

-- how many bytes of payload a slot has room for, behind its header
abbrev pub room_of : ℕ → ℕ
room_of slot = slot - HEADER_SIZE

-- how many bytes the first slot of an entry has in front of the body, beside the URL
abbrev pub front_size : ℕ
front_size = META_SIZE + HEADER_SIZE

-- the URL leaves room for itself in the first slot of an entry
abbrev pub LeavesRoom : (slot : ℕ) → List ℕ → Type 0
LeavesRoom slot url = length url + front_size ≤ slot

-- how many slots so many bytes need: their number over the room of a slot, rounded up
abbrev pub slots_needed : (size slot : ℕ) → ℕ
slots_needed size slot = (size + (room_of slot - 1)) / room_of slot

-- the piece at place k: the bytes from k rooms on, as many as fit. All pieces but the last fill their slots
abbrev pub piece : (room : ℕ) (content : List ℕ) (k : ℕ) → List ℕ
piece room content k = take room (drop (k * room) content)

-- an entry that is cut: the size of a slot, its URL and body, its version, and the slot of its first piece
pub record Cut : Type 0 where
  pub slot : ℕ
  pub url : List ℕ
  pub body : List ℕ
  pub version : ℕ
  pub first : ℕ

abbrev pub content : Cut → List ℕ
content c = content_of c.url c.body

abbrev pub count : Cut → ℕ
count c = slots_needed (length (content c)) c.slot

abbrev pub payload : Cut → ℕ → List ℕ
payload c k = piece (room_of c.slot) (content c) k

-- the header of the piece at place k: the last piece says the size of the whole, the others say 0
abbrev pub header : Cut → (k : ℕ) (next : ℤ) → Header
header c k next = record {
  k0 = from_le_bytes w64 (take 8 (key_of c.url));
  k1 = from_le_bytes w64 (drop 8 (key_of c.url));
  entry_size = cond (k + 1 == count c) (length (content c)) 0;
  payload_size = length (payload c k);
  version = c.version;
  first_slot = pos c.first;
  next_slot = next;
}

-- the image of that piece: header, piece, and zeros to the end of the slot
abbrev pub image : Cut → (k : ℕ) (next : ℤ) → List ℕ
image c k next = slot_image (header c k next) (payload c k) c.slot
