-- The summary of a file.
use Rattle.std.specs.Prelude.{◌≡◌, ℕ, ◌-◌, List, ◌++◌, length, codes, decimal}
use Rattle.rock_rebuild.specs.Tally.{used_in}
use Rattle.rock_rebuild.specs.declared.outcome.Tally.{Tally}
use Rattle.rebuild_model.specs.Rebuilt.{IsRebuilt}
use Rattle.rebuild_model.specs.declared.rebuilt.Rebuilt.{Rebuilt}

-- the slots, the entries that are kept, the slots that they take, those that are free, and the greatest version
abbrev pub front : (slots kept used : ℕ) → List ℕ
front slots kept used = codes "slots=" ++ decimal slots ++ codes " kept=" ++ decimal kept ++ codes " used=" ++ decimal used ++ codes " "

abbrev pub back : (free version : ℕ) → List ℕ
back free version = codes "free=" ++ decimal free ++ codes " version=" ++ decimal version ++ codes "\n"

abbrev pub summary : (slots kept used free version : ℕ) → List ℕ
summary slots kept used free version = front slots kept used ++ back free version

abbrev pub line_of_tally : Tally → List ℕ
line_of_tally tally = summary tally.slots tally.kept tally.used (tally.slots - tally.used) tally.greatest

abbrev pub line_of_rebuilt : Rebuilt → List ℕ
line_of_rebuilt rebuilt = summary (length rebuilt.owner) (length rebuilt.winners) (used_in rebuilt.owner)
    (length rebuilt.owner - used_in rebuilt.owner) rebuilt.greatest

-- the text sums up what a store with this number of anchors keeps of these slots
pub record Sums (anchors slot : ℕ) (images : List (List ℕ)) (text : List ℕ) : Type 0 where
  pub rebuilt : Rebuilt
  pub is : IsRebuilt slot images anchors rebuilt
  pub told : text ≡ line_of_rebuilt rebuilt
