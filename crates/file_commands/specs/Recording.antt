-- A file whose header area records its slots, or may.
use Rattle.std.specs.Prelude.{◌≡◌, ◌⊎◌, ◌+◌, ◌++◌, ◌≤◌, Contains, List, Some, drop, length, take, ℕ}
use Rattle.std.specs.FinMap.{get, insert}
use Rattle.db_layout.specs.Geometry.{header_of}
use Rattle.db_layout.specs.declared.geometry.Geometry.{Geometry}
use Rattle.db_layout.specs.declared.layout.TheConstants.{HEADER_BYTES}
use Rattle.rock_disk.specs.Cell.{CellState, shape}
use Rattle.rock_disk.specs.File.{File, Files, IsKept, bytes_of, cut, rest_cut, slots_cut}
use Rattle.rock_disk.specs.File.File.{Home}
use Rattle.rock_disk.specs.Written.{AddsAtMost, ReadsOldOrNew}
use Rattle.rock_disk.specs.declared.cell.TheConstants.{HEADER_NUMBER}
use Rattle.rock_status.specs.declared.status.Status.{Status}
use Rattle.rock_status.specs.declared.status.Status.TheVariants.{DeviceFault, Memory}

-- so many slots of this size, as a header area records them
abbrev pub geometry_of : (slot slots : ℕ) → Geometry
geometry_of slot slots = record { slot = slot; slots = slots }

-- the bytes of a file, with a header area that records this in place of its own
abbrev pub recorded_bytes : Geometry → List ℕ → List ℕ
recorded_bytes geometry bytes = header_of geometry ++ drop HEADER_BYTES bytes

-- The header area of the file of this name was written. The file is cut by the slot size, and a crash leaves these bytes alone.
pub record IsRecorded (geometry : Geometry) (name : List ℕ) (before after : Files) : Type 0 where
  pub was : File
  pub there : get before name ≡ Some was
  pub long : HEADER_BYTES + geometry.slot ≤ length (bytes_of was)
  pub is : after ≡ insert before name (cut geometry.slot (recorded_bytes geometry (bytes_of was)))

-- a header area that holds one of these two, and of which a crash leaves one of them
pub record HoldsEither (old new : List ℕ) (header : CellState) : Type 0 where
  pub shape_is : shape header ≡ (HEADER_NUMBER, HEADER_BYTES)
  pub now : (header.now ≡ old) ⊎ (header.now ≡ new)
  pub left : (content : List ℕ) → Contains header.possible content → (content ≡ old) ⊎ (content ≡ new)

-- the bytes of a file cut by this slot size, but for its header area
abbrev pub with_header : (slot : ℕ) → List ℕ → CellState → File
with_header slot bytes header = Home header (slots_cut slot bytes) (rest_cut slot bytes)

-- The header area of the file of this name may have been written: it holds what it held, or the record, and a crash leaves one of the two.
-- The slots are as opening cuts them.
pub record MayBeRecorded (geometry : Geometry) (name : List ℕ) (before after : Files) : Type 0 where
  pub was : File
  pub there : get before name ≡ Some was
  pub long : HEADER_BYTES + geometry.slot ≤ length (bytes_of was)
  pub header : CellState
  pub either : HoldsEither (take HEADER_BYTES (bytes_of was)) (header_of geometry) header
  pub is : after ≡ insert before name (with_header geometry.slot (bytes_of was) header)

-- what each refusal leaves of the files
abbrev pub RecordLeaves : Geometry → (name : List ℕ) → (before after : Files) → Status → Type 0
RecordLeaves geometry name before after Memory = IsKept geometry.slot name before after
RecordLeaves geometry name before after DeviceFault = (after ≡ before) ⊎ MayBeRecorded geometry name before after
RecordLeaves geometry name before after status = after ≡ before

-- what a header area may hold that was to be written: where memory was wanting it was not begun
abbrev pub HeaderLeft : (bytes : List ℕ) → (before after : CellState) → Status → Type 0
HeaderLeft bytes before after Memory = after ≡ before
HeaderLeft bytes before after status = AddsAtMost bytes before after × ReadsOldOrNew bytes before after
