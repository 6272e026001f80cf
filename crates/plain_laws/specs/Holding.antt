-- Which slots entries hold, and who writes them.
use Rattle.std.specs.Prelude.{◌≡◌, ℕ, ◌≤◌, sum_by, Option, Some, None}
use Rattle.plain_model.specs.declared.entry.Life.TheVariants.{Growing}
use Rattle.plain_model.specs.declared.entry.Entry.{Entry}
use Rattle.plain_model.specs.declared.store.Setting.{Setting}
use Rattle.plain_model.specs.declared.store.Tab.TheVariants.{Writing}
use Rattle.plain_model.specs.declared.store.Plain.{Plain}
use Rattle.plain_model.specs.Store.{entry_at, tab_at}
use Rattle.plain_model.specs.Slots.{held}

abbrev pub IsGrowing : Option Entry → Type 0
IsGrowing None = ⊥
IsGrowing (Some e) = e.life ≡ Growing

-- each tab that writes has an entry that grows, and shares it with no other
pub record WritesApart (p : Plain) : Type 0 where
  pub grows : (tab anchor : ℕ) → tab_at p tab ≡ Writing anchor → IsGrowing (entry_at p anchor)
  pub apart : (tab other anchor : ℕ) → tab_at p tab ≡ Writing anchor → tab_at p other ≡ Writing anchor → tab ≡ other

abbrev pub slots_held : Setting → Plain → ℕ
slots_held s p = sum_by (held s.room) p.places

-- the entries of the store hold no more slots than there are
pub record HoldsItsSlots (s : Setting) (p : Plain) : Type 0 where
  pub within : slots_held s p ≤ s.slots
  pub writes : WritesApart p
