-- The slot size of a run, which is given, or which the header area of the file tells.
use Rattle.std.specs.Prelude.{Bool, IsTrue, List, Option, Some, ◌≡◌, ℕ}
use Rattle.db_layout.specs.Layout.{IsSlotSize}
use Rattle.rock_disk.specs.File.{Files}
use Rattle.slot_finding.specs.Finding.{FindsSlot}

-- Slots may have this size. It is the one that was given, where one was; and where the volume tells its files, the file and what was given
-- have it.
pub record IsSlotOf (volume_tells : Bool) (files : Files) (name : List ℕ) (given : Option ℕ) (slot : ℕ) : Type 0 where
  -- Slots may have this size.
  pub sized : IsSlotSize slot
  -- It is the one that was given, where one was.
  pub same : (n : ℕ) → given ≡ Some n → slot ≡ n
  -- Where the volume tells its files, the file and what was given have it.
  pub found : IsTrue volume_tells → FindsSlot files name given slot
