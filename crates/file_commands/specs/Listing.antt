-- The listing of a file.
use Rattle.std.specs.Prelude.{◌≡◌, ℕ, ◌≤◌, List, ◌++◌, length, map, Contains, codes, decimal}
use Rattle.std.specs.List.{flat_map}
use Rattle.std.specs.List.Sorted.{IsStrictlyIncreasing}
use Rattle.rock_disk.specs.File.{slots_cut}
use Rattle.rebuild_model.specs.Entry.{Entry, IsComplete}
use Rattle.rebuild_model.specs.declared.found.Found.{Found}

-- the images of the slots of a file with these bytes
abbrev pub images_of : ℕ → List ℕ → List (List ℕ)
images_of slot bytes = map (λ c. c.now) (slots_cut slot bytes)

-- a line: first slot, version, slots, length of the body, and URL
abbrev pub numbers : (first version slots length : ℕ) → List ℕ
numbers first version slots length = codes "ENTRY " ++ decimal first ++ codes " " ++ decimal version ++ codes " " ++ decimal slots
    ++ codes " " ++ decimal length ++ codes " "

abbrev pub line : (first version slots length : ℕ) (url : List ℕ) → List ℕ
line first version slots length url = numbers first version slots length ++ url ++ codes "\n"

-- the line of an entry, and of one as a scan tells it
abbrev pub line_of : Entry → List ℕ
line_of e = line e.first e.version (length e.chain) (length e.body) e.url

abbrev pub line_of_found : Found → List ℕ
line_of_found f = line f.first f.version (length f.chain) f.length f.url

-- its URL is as short as URLs are
abbrev pub HasShortUrl : Found → Type 0
HasShortUrl f = length f.url ≤ 2048

-- the text has the lines of exactly the complete entries of these slots, in order of their first slots
pub record Lists (slot : ℕ) (images : List (List ℕ)) (text : List ℕ) : Type 0 where
  -- these entries
  pub entries : List Entry
  -- are complete
  pub complete : (e : Entry) → Contains entries e → IsComplete slot images e
  -- and are all that are
  pub every : (e : Entry) → IsComplete slot images e → Contains entries e
  -- in this order
  pub ordered : IsStrictlyIncreasing (map (λ e. e.first) entries)
  -- with a line each
  pub joined : text ≡ flat_map line_of entries
