-- The bytes of a slot.
use Rattle.std.specs.Prelude.{◌≡◌, ℕ, ◌+◌, ◌-◌, ◌^◌, ◌<◌, ◌≤◌, FitsSigned, pos, negsuc, ◌≤ℤ◌, ◌<ℤ◌, List, ◌++◌, length, take, drop, replicate}
use Rattle.std.specs.Int.{w32, w64, to_le_bytes, from_le_bytes, cast_signed, cast_unsigned}
use Rattle.slot_cell.specs.declared.header.Header.{Header}
use Rattle.slot_cell.specs.declared.header.TheConstants.{HEADER_SIZE, GREATEST_VERSION}

-- the 40 bytes of a header
unfoldable pub header_bytes : Header → List ℕ
header_bytes h =
    to_le_bytes w64 h.k0 ++ to_le_bytes w64 h.k1 ++ to_le_bytes w64 h.entry_size
    ++ to_le_bytes w32 h.payload_size ++ to_le_bytes w32 h.version
    ++ to_le_bytes w32 (cast_unsigned w32 h.first_slot) ++ to_le_bytes w32 (cast_unsigned w32 h.next_slot)

-- the header that stands at the front of these bytes
unfoldable pub header_of : List ℕ → Header
header_of bytes = record {
  k0 = from_le_bytes w64 (take 8 bytes);
  k1 = from_le_bytes w64 (take 8 (drop 8 bytes));
  entry_size = from_le_bytes w64 (take 8 (drop 16 bytes));
  payload_size = from_le_bytes w32 (take 4 (drop 24 bytes));
  version = from_le_bytes w32 (take 4 (drop 28 bytes));
  first_slot = cast_signed w32 (from_le_bytes w32 (take 4 (drop 32 bytes)));
  next_slot = cast_signed w32 (from_le_bytes w32 (take 4 (drop 36 bytes)));
}

-- each field fits its place
pub record IsInRange (h : Header) : Type 0 where
  pub k0 : h.k0 < 2 ^ 64
  pub k1 : h.k1 < 2 ^ 64
  pub entry_size : h.entry_size < 2 ^ 64
  pub payload_size : h.payload_size < 2 ^ 32
  pub version : h.version < 2 ^ 32
  pub first_slot : FitsSigned w32 h.first_slot
  pub next_slot : FitsSigned w32 h.next_slot

-- the payload of a slot: the bytes behind its header, as many as the header says
abbrev pub payload_of : List ℕ → List ℕ
payload_of image = take (header_of image).payload_size (drop HEADER_SIZE image)

-- the image of a slot: its header, its payload, and zeros to its end
abbrev pub slot_image : Header → List ℕ → ℕ → List ℕ
slot_image h payload slot = header_bytes h ++ payload ++ replicate (slot - HEADER_SIZE - length payload) 0

-- the header of a slot that holds nothing
pub record IsEmpty (h : Header) : Type 0 where
  pub first_slot : h.first_slot ≡ pos 0
  pub next_slot : h.next_slot ≡ pos 0
  pub payload_size : h.payload_size ≡ 0

-- the header can stand in a file of this many slots of this many bytes
pub record IsSane (h : Header) (slots slot : ℕ) : Type 0 where
  pub first_from : pos 0 ≤ℤ h.first_slot
  pub first_below : h.first_slot <ℤ pos slots
  pub next_from : negsuc 0 ≤ℤ h.next_slot
  pub next_below : h.next_slot <ℤ pos slots
  pub version_from : 0 < h.version
  pub version_to : h.version ≤ GREATEST_VERSION
  pub payload_from : 0 < h.payload_size
  pub payload_to : h.payload_size + HEADER_SIZE ≤ slot
