-- The file that a run gave back, and what a crash leaves of it.
use Rattle.std.specs.Prelude.{◌≡◌, ℕ, List, Some, length, map}
use Rattle.std.specs.FinMap.{get, insert}
use Rattle.db_layout.specs.Layout.{slots_of}
use Rattle.rock_disk.specs.Cell.{CellState, shape}
use Rattle.rock_disk.specs.Crash.{IsCrashImage}
use Rattle.rock_disk.specs.File.{File, Files, bytes_of, header_cut, rest_cut, shapes_from, slots_cut}
use Rattle.rock_disk.specs.File.File.{Home}
use Rattle.rebuild_model.specs.Entry.{Entry, IsComplete}
use Rattle.script_text.specs.declared.line.Line.{Line}
use Rattle.run_rules.specs.Responses.{IsResponse}

-- the images of the slots of a file, where slots have this size
abbrev pub images_of : (slot : ℕ) → File → List (List ℕ)
images_of slot was = map (λ c. c.now) (slots_cut slot (bytes_of was))

-- A file was opened as a store for the lines of a script, and the store was closed.
pub record IsGivenBack (before after : Files) (name : List ℕ) (slot : ℕ) (script : List Line) : Type 0 where
  -- The file as it was before.
  pub was : File
  -- It was in.
  pub there : get before name ≡ Some was
  -- Its slots have cells again, as many as they were and as wide.
  pub cells : List CellState
  -- They are as wide as opening cuts them.
  pub shapes : map shape cells ≡ shapes_from 0 (slots_of (length (bytes_of was)) slot) slot
  -- These are in the file. Its header area and what is behind its slots are as opening cuts them, and the other files are as they were.
  pub back : after ≡ insert before name (Home (header_cut (bytes_of was)) cells (rest_cut slot (bytes_of was)))
  -- A crash may leave what reads give.
  pub now : IsCrashImage cells (map (λ c. c.now) cells)
  -- Whatever it leaves, each complete entry is a stored response: one that the file had before, or one that a line of the script offers.
  pub responses : (crashed : List (List ℕ)) → IsCrashImage cells crashed → (e : Entry) → IsComplete slot crashed e
      → IsResponse slot (images_of slot was) script e.url e.body
