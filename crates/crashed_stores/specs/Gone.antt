-- An entry whose first slot was wiped, and what a crash leaves of it from then on: nothing that could be found.
use Rattle.std.specs.Prelude.{◌<◌, ◌≡◌, ◌≢◌, ℕ, List}
use Rattle.rebuild_model.specs.Entry.{Entry, IsComplete}
use Rattle.core_model.specs.Anchors.{opening_counter}
use Rattle.store_rule.specs.Ground.{Ground}

-- These images have no complete entry of this version, as far as the store knows its versions.
pub record HaveNone (slot : ℕ) (g : Ground (List ℕ)) (version wiped : ℕ) (images : List (List ℕ)) : Type 0 where
  -- none of this version begins at the slot that was wiped
  pub begun : (e : Entry) → IsComplete slot images e → e.first ≡ wiped → e.version ≢ version
  -- where the version is above the greatest one of the file at the opening, there is none of it at all
  pub new : opening_counter g.setting < version → (e : Entry) → IsComplete slot images e → e.version ≢ version
