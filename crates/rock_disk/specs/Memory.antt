-- What cells, stations and volumes in memory tell.
use Rattle.std.specs.Prelude.{◌≡◌, ℕ, ◌+◌, ◌<◌, ◌≤◌, List, [], length, map, get_or, Option, Some, None}
use Rattle.std.specs.FinMap.{from_entries, get}
use Rattle.std.specs.declared.vec.Vec.{Vec}
use Rattle.rock_io.specs.Plan.{FailsNext, Schedule, schedule_of, faults_of}
use Rattle.db_layout.specs.declared.layout.TheConstants.{HEADER_BYTES}
use Rattle.rock_disk.specs.Cell.{CellState}
use Rattle.rock_disk.specs.File.{File, Files, bytes_of}
use Rattle.rock_disk.specs.File.File.{Home, Away}
use Rattle.rock_disk.specs.Reads.{many_more}
use Rattle.rock_disk.specs.Stations.{made_of, ended_of}
use Rattle.rock_disk.specs.declared.memory.cell.MemCell.{MemCell}
use Rattle.rock_disk.specs.declared.memory.entry.Entry.{Entry}
use Rattle.rock_disk.specs.declared.memory.file.MemFile.{MemFile}
use Rattle.rock_disk.specs.declared.memory.file.MemFile.TheVariants as mem
use Rattle.rock_disk.specs.declared.memory.station.MemStation.{MemStation}
use Rattle.rock_disk.specs.declared.memory.volume.MemVolume.{MemVolume}

abbrev pub cell_state : MemCell → CellState
cell_state c =
    let now = get_or c.possible.items c.at [] in
    record { number = c.number; width = length now; now = now; possible = c.possible.items }

abbrev pub station_faults : MemStation → ℕ
station_faults s = faults_of s.plan

abbrev pub station_plan : MemStation → Schedule
station_plan s = schedule_of s.plan

-- after so many more calls
abbrev pub called_by : ℕ → Schedule → Schedule
called_by n schedule = record { fail = schedule.fail; number = many_more n schedule.number }

-- of the next so many calls none is listed to fail
abbrev pub NoneFails : ℕ → Schedule → Type 0
NoneFails n schedule = (k : ℕ) → k < n → FailsNext (called_by k schedule) → ⊥

-- of the next calls, the one behind so many is the first that is listed to fail
abbrev pub IsFirstToFail : ℕ → Schedule → Type 0
IsFirstToFail n schedule = NoneFails n schedule × FailsNext (called_by n schedule)

abbrev pub file_of : MemFile → File
file_of (mem.Home header cells rest) = Home (cell_state header) (map cell_state cells.items) rest.items
file_of (mem.Away slots slot rest) = Away slots slot rest.items

abbrev pub entry_of : Entry → List ℕ × File
entry_of e = (e.name, file_of e.file)

-- of entries with one name, the first is the file
abbrev pub files_of : List Entry → Files
files_of entries = from_entries (map entry_of entries)

abbrev pub volume_files : MemVolume → Files
volume_files v = files_of v.entries.items

abbrev pub volume_faults : MemVolume → ℕ
volume_faults v = faults_of v.plan

abbrev pub volume_plan : MemVolume → Schedule
volume_plan v = schedule_of v.plan

abbrev pub volume_made : MemVolume → ℕ
volume_made v = made_of v.stations

abbrev pub volume_ended : MemVolume → List ℕ
volume_ended v = ended_of v.stations

-- the lists that vectors hold
abbrev pub lists_of : {A : Type 0} → List (Vec ℕ A) → List (List ℕ)
lists_of {A = A} vectors = map (λ (v : Vec ℕ A). v.items) vectors

-- for each station by the order in which they are made, the numbers of its calls that fail
abbrev pub volume_lists : MemVolume → List (List ℕ)
volume_lists v = lists_of v.lists.items

-- all but the files is as it was
pub record KeepsCounts (before after : MemVolume) : Type 0 where
  pub faults : volume_faults after ≡ volume_faults before
  pub made : volume_made after ≡ volume_made before
  pub ended : volume_ended after ≡ volume_ended before
  pub plan : volume_plan after ≡ volume_plan before
  pub lists : volume_lists after ≡ volume_lists before

-- the file has room for its header area and one slot; of a slot of no bytes, for its header area
pub record HasRoom (files : Files) (name : List ℕ) (slot : ℕ) : Type 0 where
  pub was : File
  pub found : get files name ≡ Some was
  pub room : HEADER_BYTES + slot ≤ length (bytes_of was)

-- the slot cells of a file, where they are in
abbrev pub cells_in : Option File → Option (List CellState)
cells_in (Some (Home header cells rest)) = Some cells
cells_in file = None

abbrev pub rest_of : File → List ℕ
rest_of (Home header cells rest) = rest
rest_of (Away slots slot rest) = rest
