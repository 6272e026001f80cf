-- A core that goes through crashes, as contracts see it, and what always holds of it.
use Rattle.std.specs.Prelude.{◌≡◌, ◌<◌, Contains, List, Option, Some, length}
use Rattle.rebuild_model.specs.declared.image.FileImage.{FileImage}
use Rattle.rebuild_model.specs.Image.{IsFile}
use Rattle.core_model.specs.Sound.{Sound}
use Rattle.core_model.specs.declared.view.LoggedPiece.{LoggedPiece}
use Rattle.core_log.specs.Keeps.{IsWithin}
use Rattle.core_log.specs.Logged.{LogStands}
use Rattle.core_table.specs.Machine.{Machine, setting_of, state_of}
use Rattle.named_rebuild.specs.declared.contents.FirstContent.{FirstContent}
use Rattle.named_rebuild.specs.Contents.{AreContents}

pub record Lived : Type 0 where
  pub core : Machine
  pub file : FileImage  -- the file that it had at first
  pub first : List FirstContent  -- what each slot held when it was last opened
  pub left : Option (List FirstContent)  -- what a crash left, until the rebuild

-- There is a log of the core: what passes and notes have seen as logged, in order, and the slots that a piece names are the store's.
pub record HasOrderedLog (m : Machine) : Type 0 where
  pub log : List LoggedPiece
  pub stands : LogStands (setting_of m) (state_of m) log
  pub within : (l : LoggedPiece) → Contains log l → IsWithin (setting_of m) l.piece

-- The core is sound, and what was logged since the last opening is in order. The file is one that a store may have, with as many slots as
-- the core. What slots held, and what a crash left in them, are what slots of such a store may hold.
pub record IsSoundLife (l : Lived) : Type 0 where
  pub sound : Sound (setting_of l.core) (state_of l.core)
  pub logs : HasOrderedLog l.core
  pub file : IsFile l.file.slot l.file.slots
  pub slots : length l.file.slots ≡ l.core.slots
  pub some_anchor : 0 < l.core.anchors
  pub first : AreContents l.core.slots l.first
  pub left : (xs : List FirstContent) → l.left ≡ Some xs → AreContents l.core.slots xs
