-- What a writer knows of a piece when it makes its header.
use Rattle.std.specs.Prelude.{◌≡◌, ℕ, ℤ, ◌+◌, ◌<◌, ◌^◌, pos, negsuc, length, take, drop}
use Rattle.std.specs.Int.{w64, from_le_bytes}
use Rattle.slot_cell.specs.declared.header.Header.{Header}
use Rattle.store_key.specs.Key.{key_of}
use Rattle.entry_cut.specs.Content.{Cut, content, count}
use Rattle.entry_cut.specs.declared.piece.Label.{Label}
use Rattle.entry_cut.specs.declared.piece.Behind.{Behind}
use Rattle.entry_cut.specs.declared.piece.Behind.TheVariants.{Slot, End}

-- a header has room for the number of the slot that is named
abbrev pub Fits : Behind → Type 0
Fits (Slot s) = s < 2 ^ 31
Fits (End size) = Unit {0}

-- the size of the whole that a header says, and the slot that it names next
abbrev pub whole_of : Behind → ℕ
whole_of (Slot s) = 0
whole_of (End size) = size

abbrev pub next_of : Behind → ℤ
next_of (Slot s) = pos s
next_of (End size) = negsuc 0

-- the header of a piece with this label and of so many bytes
abbrev pub header_with : Label → (size : ℕ) → Behind → Header
header_with label size behind = record {
  k0 = from_le_bytes w64 (take 8 label.key);
  k1 = from_le_bytes w64 (drop 8 label.key);
  entry_size = whole_of behind;
  payload_size = size;
  version = label.version;
  first_slot = pos label.first;
  next_slot = next_of behind;
}

-- the pieces of this entry have this label
pub record IsLabelOf (c : Cut) (label : Label) : Type 0 where
  pub key : label.key ≡ key_of c.url
  pub version : label.version ≡ c.version
  pub first : label.first ≡ c.first

-- this comes behind the piece at place k: another piece, or none, and then the whole content has been cut
abbrev pub ComesBehind : Cut → (k : ℕ) → Behind → Type 0
ComesBehind c k (Slot s) = k + 1 < count c
ComesBehind c k (End size) = (k + 1 ≡ count c) × (size ≡ length (content c))
