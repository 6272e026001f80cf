-- Of a list of entries, the best at each anchor.
use Rattle.std.specs.Prelude.{◌≡◌, ◌⊎◌, ℕ, ◌<◌, ◌≤◌, List, length, drop, Contains, Option, None, Some, MatchOption, slice_index_or}
use Rattle.std.specs.List.{slice_get}
use Rattle.store_key.specs.Anchor.{anchor_of}
use Rattle.rebuild_model.specs.declared.found.Found.{Found}

-- of these at this anchor, the one of greatest version, and of those the one that begins first
pub record IsBestOf (anchors anchor : ℕ) (found : List Found) (kept : Found) : Type 0 where
  pub among : Contains found kept
  pub at : anchor_of kept.key anchors ≡ anchor
  pub best : (f : Found) → Contains found f → anchor_of f.key anchors ≡ anchor → (f.version < kept.version) ⊎ ((f.version ≡ kept.version) × (kept.first ≤ f.first))

-- or none of these is at it
abbrev pub BestOf : ℕ → ℕ → List Found → Option Found → Type 0
BestOf anchors anchor found best = MatchOption best ((f : Found) → Contains found f → anchor_of f.key anchors ≡ anchor → ⊥) (IsBestOf anchors anchor found)

-- the entry at a place in the list, if a place is named and one is there
abbrev pub found_at : List Found → Option ℕ → Option Found
found_at found None = None
found_at found (Some place) = slice_get found place

-- for each anchor the place of the best entry there, of those that stand from a place on
pub record AreBest (anchors : ℕ) (found : List Found) (from : ℕ) (best : List (Option ℕ)) : Type 0 where
  pub count : length best ≡ anchors
  pub each : (anchor : ℕ) → anchor < anchors → BestOf anchors anchor (drop from found) (found_at found (slice_index_or best anchor None))
