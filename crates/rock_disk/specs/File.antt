-- A file by its cells, and how its bytes are cut into them.
use Rattle.std.specs.Prelude.{◌≡◌, ◌⊎◌, ℕ, ◌+◌, ◌*◌, ◌-◌, ◌/◌, ◌≤◌, min, zero, suc, List, [], ◌∷◌, ◌++◌, length, take, drop, Option, Some, option_map, replicate}
use Rattle.std.specs.Ordering.{nat_cmp}
use Rattle.std.specs.Cmp.Lexicographic.{slice_cmp}
use Rattle.std.specs.FinMap.{FinMap, get, insert}
use Rattle.db_layout.specs.declared.layout.TheConstants.{HEADER_BYTES}
use Rattle.db_layout.specs.Layout.{slots_of}
use Rattle.rock_disk.specs.Cell.{CellState, settled, joined}
use Rattle.rock_disk.specs.declared.cell.TheConstants.{HEADER_NUMBER}

-- a file with its cells in it, or with the cells out. Bytes past the last slot are its rest
pub data File : Type 0 where
  Home : (header : CellState) (cells : List CellState) (rest : List ℕ) → File
  Away : (slots slot : ℕ) (rest : List ℕ) → File

-- files by the bytes of their names
abbrev pub Files : Type 0
Files = FinMap (slice_cmp nat_cmp) File

-- the header's bytes, the slots' and the rest
abbrev pub bytes_of : File → List ℕ
bytes_of (Home header cells rest) = header.now ++ (joined cells ++ rest)
bytes_of (Away slots slot rest) = rest

-- the first n slots of these bytes, of which the first has this number
abbrev pub slots_from : ℕ → ℕ → ℕ → List ℕ → List CellState
slots_from number zero slot bytes = []
slots_from number (suc n) slot bytes = settled number slot (take slot bytes) ∷ slots_from (number + 1) n slot (drop slot bytes)

-- the numbers and widths of so many slots
abbrev pub shapes_from : ℕ → ℕ → ℕ → List (ℕ × ℕ)
shapes_from number zero slot = []
shapes_from number (suc n) slot = (number, slot) ∷ shapes_from (number + 1) n slot

-- the header area of a file with these bytes, its whole slots, and its rest
abbrev pub header_cut : List ℕ → CellState
header_cut bytes = settled HEADER_NUMBER HEADER_BYTES (take HEADER_BYTES bytes)

abbrev pub slots_cut : ℕ → List ℕ → List CellState
slots_cut slot bytes = slots_from 0 (slots_of (length bytes) slot) slot (drop HEADER_BYTES bytes)

abbrev pub rest_cut : ℕ → List ℕ → List ℕ
rest_cut slot bytes = drop (HEADER_BYTES + slots_of (length bytes) slot * slot) bytes

-- a file's bytes, cut anew by this slot size
abbrev pub cut : ℕ → List ℕ → File
cut slot bytes = Home (header_cut bytes) (slots_cut slot bytes) (rest_cut slot bytes)

-- bytes that are not cut yet
abbrev pub uncut : List ℕ → File
uncut bytes = Home (settled HEADER_NUMBER 0 []) [] bytes

-- n bytes, each of them 0
unfoldable pub zeros : ℕ → List ℕ
zeros n = replicate n 0

-- the cells of this file are not out
abbrev pub IsNotAway : Option File → Type 0
IsNotAway (Some (Away slots slot rest)) = ⊥
IsNotAway f = Unit {0}

-- no file's cells are out
abbrev pub NoneAway : Files → Type 0
NoneAway files = (name : List ℕ) → IsNotAway (get files name)

-- there is a file of this name
abbrev pub IsThere : Files → List ℕ → Type 0
IsThere files name = (f : File) × (get files name ≡ Some f)

-- the file is as it was, or as opening cuts it, and the other files are as they were
abbrev pub IsKept : ℕ → List ℕ → Files → Files → Type 0
IsKept slot name before after =
    (after ≡ before) ⊎ ((was : File) × (get before name ≡ Some was) × (after ≡ insert before name (cut slot (bytes_of was))))

-- each file has the bytes that it had, and no other is there
abbrev pub HaveSameBytes : Files → Files → Type 0
HaveSameBytes before after = (name : List ℕ) → option_map bytes_of (get after name) ≡ option_map bytes_of (get before name)

-- the file of this name is long enough, and has this number of slots
pub record HasSlots (files : Files) (name : List ℕ) (slot slots : ℕ) : Type 0 where
  pub was : File
  pub there : get files name ≡ Some was
  pub long : HEADER_BYTES + slot ≤ length (bytes_of was)
  pub count : slots ≡ slots_of (length (bytes_of was)) slot
