-- What a scan tells of a file.
use Rattle.std.specs.Prelude.{◌≡◌, ℕ, List, map, Contains}
use Rattle.std.specs.List.Sorted.{IsStrictlyIncreasing}
use Rattle.rebuild_model.specs.Image.{IsGreatest}
use Rattle.rebuild_model.specs.Entry.{Entry, IsComplete, found_of}
use Rattle.rock_rebuild.specs.declared.outcome.Scan.{Scan}

-- it tells exactly the complete entries, in order of their first slots, and the greatest sane version
pub record IsScan (slot : ℕ) (images : List (List ℕ)) (scan : Scan) : Type 0 where
  pub entries : List Entry
  pub told : scan.found ≡ map found_of entries
  pub complete : (e : Entry) → Contains entries e → IsComplete slot images e
  pub every : (e : Entry) → IsComplete slot images e → Contains entries e
  pub ordered : IsStrictlyIncreasing (map (λ e. e.first) entries)
  pub greatest : IsGreatest slot images scan.greatest
