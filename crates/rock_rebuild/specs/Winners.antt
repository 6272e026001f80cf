-- What is kept at each anchor.
use Rattle.std.specs.Prelude.{◌≡◌, ℕ, ◌<◌, List, length, Option, None, MatchOption, slice_index_or}
use Rattle.rebuild_model.specs.Keeping.{HasNoneAt, IsKept}
use Rattle.rebuild_model.specs.declared.found.Found.{Found}
use Rattle.rock_rebuild.specs.Best.{found_at}

-- for each anchor the place of the entry that is kept there, or none where none is
pub record AreKept (slot : ℕ) (images : List (List ℕ)) (anchors : ℕ) (found : List Found) (kept : List (Option ℕ)) : Type 0 where
  pub count : length kept ≡ anchors
  pub each : (anchor : ℕ) → anchor < anchors → MatchOption (found_at found (slice_index_or kept anchor None)) (HasNoneAt slot images anchors anchor) (IsKept slot images anchors anchor)
