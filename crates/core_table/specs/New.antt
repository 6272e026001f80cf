-- A core that was just opened.
use Rattle.std.specs.Prelude.{◌≡◌, ℕ, List, Option, Some, map, ◌∷◌, []}
use Rattle.core_model.specs.declared.tab.Cell.{Cell}
use Rattle.core_model.specs.Opening.{IsOpened}
use Rattle.rebuild_model.specs.declared.image.FileImage.{FileImage}
use Rattle.rebuild_model.specs.declared.rebuilt.Rebuilt.{Rebuilt}
use Rattle.rebuild_model.specs.Rebuilt.{IsRebuilt}
use Rattle.core_table.specs.declared.content.Content.{Content}
use Rattle.core_table.specs.Machine.{Machine, opened_from, setting_of, state_of}

-- a cell that holds this content and may hold no other after a crash
abbrev pub cell_of : Content → Option (Cell Content)
cell_of x = Some record { now = x; possible = x ∷ [] }

abbrev pub opened_places : ℕ → List (Option (Cell Content))
opened_places slots = map cell_of (opened_from 0 slots)

-- The core is that of a store that was opened over the file image, with so many anchors and passes: what a rebuild keeps
-- stands, and all else is free.
pub record IsNew (image : FileImage) (slots anchors passes : ℕ) (m : Machine) : Type 0 where
  pub anchors_are : m.anchors ≡ anchors
  pub slots_are : m.slots ≡ slots
  pub passes_are : m.passes ≡ passes
  pub rebuilt : Rebuilt
  pub kept : IsRebuilt image.slot image.slots anchors rebuilt
  pub opened : IsOpened (setting_of m) rebuilt (state_of m)
