-- The complete entries, gathered slot by slot.
use Rattle.std.specs.Prelude.{◌≡◌, ℕ, ◌<◌, List, map, Contains, All}
use Rattle.std.specs.List.Sorted.{IsStrictlyIncreasing}
use Rattle.rebuild_model.specs.Entry.{Entry, IsComplete, found_of}
use Rattle.rebuild_model.specs.declared.found.Found.{Found}

-- an entry, told part by part
abbrev pub found_with : ℕ → ℕ → (key url : List ℕ) → ℕ → List ℕ → Found
found_with first version key url length chain = record { first = first; version = version; key = key; url = url; length = length; chain = chain }

-- these are the complete entries that begin before slot `bound`, in order of their first slots
pub record AreFound (slot : ℕ) (images : List (List ℕ)) (bound : ℕ) (found : List Found) : Type 0 where
  pub entries : List Entry
  pub told : found ≡ map found_of entries
  pub complete : (e : Entry) → Contains entries e → IsComplete slot images e
  pub every : (e : Entry) → IsComplete slot images e → e.first < bound → Contains entries e
  pub ordered : IsStrictlyIncreasing (map (λ e. e.first) entries)
  pub below : All (λ s. s < bound) (map (λ e. e.first) entries)
