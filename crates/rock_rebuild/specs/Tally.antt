-- How much a store keeps of a file.
use Rattle.std.specs.Prelude.{◌≡◌, ℕ, List, length, count_by, nat_lt}
use Rattle.rebuild_model.specs.declared.rebuilt.Rebuilt.{Rebuilt}
use Rattle.rebuild_model.specs.Rebuilt.{IsRebuilt}
use Rattle.rock_rebuild.specs.declared.outcome.Tally.{Tally}

-- how many slots have an owner
abbrev pub used_in : List ℕ → ℕ
used_in owner = count_by (λ n. nat_lt 0 n) owner

-- it counts what is kept
pub record Counts (rebuilt : Rebuilt) (tally : Tally) : Type 0 where
  pub slots : tally.slots ≡ length rebuilt.owner
  pub kept : tally.kept ≡ length rebuilt.winners
  pub used : tally.used ≡ used_in rebuilt.owner
  pub greatest : tally.greatest ≡ rebuilt.greatest

-- it counts what a rebuild of the file keeps for so many anchors
pub record IsTally (slot : ℕ) (images : List (List ℕ)) (anchors : ℕ) (tally : Tally) : Type 0 where
  pub rebuilt : Rebuilt
  pub is : IsRebuilt slot images anchors rebuilt
  pub counts : Counts rebuilt tally
