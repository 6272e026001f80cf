-- A file that is opened, or whose header area is read; or that is refused.
use Rattle.std.specs.Prelude.{◌≡◌, ℕ, ◌+◌, ◌<◌, ◌≤◌, List, length, map, take, Some, All}
use Rattle.std.specs.FinMap.{get, insert}
use Rattle.db_layout.specs.declared.layout.TheConstants.{HEADER_BYTES, MOST_SLOTS}
use Rattle.db_layout.specs.Layout.{IsSlotSize, slots_of}
use Rattle.rock_disk.specs.Cell.{CellState, shape}
use Rattle.rock_disk.specs.declared.cell.TheConstants.{HEADER_NUMBER}
use Rattle.rock_disk.specs.File.{File, Files, bytes_of, shapes_from, header_cut, slots_cut, rest_cut}
use Rattle.rock_disk.specs.File.File.{Away}

-- what every volume says of the cells of an opened file
pub record HasShape (slot bytes : ℕ) (header : CellState) (cells : List CellState) : Type 0 where
  pub room : HEADER_BYTES + slot ≤ bytes
  pub header_shape : shape header ≡ (HEADER_NUMBER, HEADER_BYTES)
  pub cell_shapes : map shape cells ≡ shapes_from 0 (slots_of bytes slot) slot

-- these are the slots of an opened file, where slots have a size that a file's may have
pub record AreSlots (slot : ℕ) (cells : List CellState) : Type 0 where
  pub size : IsSlotSize slot
  pub wide : All (λ c. c.width ≡ slot) cells
  pub few : length cells ≤ MOST_SLOTS

-- the file was cut anew and its cells are out
pub record IsOpened (before after : Files) (name : List ℕ) (slot bytes : ℕ) (header : CellState) (cells : List CellState) : Type 0 where
  pub was : File
  pub found : get before name ≡ Some was
  pub size : bytes ≡ length (bytes_of was)
  pub header_is : header ≡ header_cut (bytes_of was)
  pub cells_are : cells ≡ slots_cut slot (bytes_of was)
  pub out : after ≡ insert before name (Away (slots_of bytes slot) slot (rest_cut slot (bytes_of was)))

-- these may be given back to the file of this name
pub record IsOut (files : Files) (name : List ℕ) (header : CellState) (cells : List CellState) : Type 0 where
  pub slot : ℕ
  pub rest : List ℕ
  pub found : get files name ≡ Some (Away (length cells) slot rest)
  pub header_shape : shape header ≡ (HEADER_NUMBER, HEADER_BYTES)
  pub cell_shapes : map shape cells ≡ shapes_from 0 (length cells) slot

-- the file of this name has this length, at least a header area's, and these bytes are that header area
pub record IsPeeked (files : Files) (name : List ℕ) (bytes : ℕ) (front : List ℕ) : Type 0 where
  pub was : File
  pub found : get files name ≡ Some was
  pub size : bytes ≡ length (bytes_of was)
  pub long : HEADER_BYTES ≤ bytes
  pub front_is : front ≡ take HEADER_BYTES (bytes_of was)

-- the file is too short for its header area and one slot; of a slot of no bytes, for its header area
pub record IsSmall (files : Files) (name : List ℕ) (slot bytes : ℕ) : Type 0 where
  pub was : File
  pub found : get files name ≡ Some was
  pub size : bytes ≡ length (bytes_of was)
  pub short : bytes < HEADER_BYTES + slot
