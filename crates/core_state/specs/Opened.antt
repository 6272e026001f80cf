-- A core that was opened with what a rebuild kept, whatever the rebuild is of.
use Rattle.std.specs.Prelude.{◌≡◌, ℕ}
use Rattle.rebuild_model.specs.declared.rebuilt.Rebuilt.{Rebuilt}
use Rattle.core_model.specs.Opening.{IsOpened}
use Rattle.core_table.specs.Machine.{Machine, setting_of, state_of}

-- what was kept stands, and all else is free
pub record IsOpenedWith (r : Rebuilt) (anchors slots passes : ℕ) (m : Machine) : Type 0 where
  pub anchors_are : m.anchors ≡ anchors
  pub slots_are : m.slots ≡ slots
  pub passes_are : m.passes ≡ passes
  pub opened : IsOpened (setting_of m) r (state_of m)
