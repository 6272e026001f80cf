-- The lines that were read so far.
use Rattle.std.specs.Prelude.{◌≡◌, ◌↔◌, ◌⊎◌, ◌==◌, ℕ, ◌+◌, ◌*◌, ◌<◌, ◌≤◌, List, ◌∷◌, ◌++◌, length, All, IsTrue, false, slice_index_or, decimal}
use Rattle.script_text.specs.Words.{words_of, lines_of, IsPrintable}
use Rattle.script_text.specs.Requests.{name_of, offered_size}
use Rattle.script_text.specs.Lines.{total_of, IsMarked, AreLines}
use Rattle.script_text.specs.declared.line.Line.{Line}
use Rattle.script_text.specs.declared.reading.Reading.{Reading}
use Rattle.script_text.specs.declared.request.Request.{Request}
use Rattle.script_text.specs.declared.request.Request.TheVariants.{Mark}
use Rattle.script_text.specs.declared.verb.Verb.{Verb}

abbrev pub lines_read : Reading → List Line
lines_read reading = reading.lines.items

-- a part of a line
abbrev pub IsUnbroken : List ℕ → Type 0
IsUnbroken text = All (λ b. (b == 10) ≡ false) text

-- what later lines are judged by is what the lines say
pub record IsReading (reading : Reading) : Type 0 where
  pub few : length (lines_read reading) ≤ 4096
  pub total : reading.total ≡ total_of (lines_read reading)
  pub room : reading.total ≤ 67108864
  pub short : length reading.begun.items ≤ 8192
  pub unbroken : IsUnbroken reading.begun.items
  pub marked : (mark : ℕ) → mark < 64 → (IsTrue (slice_index_or reading.marked mark false) ↔ IsMarked (lines_read reading) mark)

-- the line is one of the first so many, short and printable
pub record IsInBounds (before : List Line) (text : List ℕ) : Type 0 where
  pub few : length before < 4096
  pub short : length text ≤ 8192
  pub printable : All IsPrintable text

-- the line is for one of so many workers, and a request of this name and these words
pub record HasHead (workers : ℕ) (text : List ℕ) (worker : ℕ) (name : Verb) (fields : List (List ℕ)) : Type 0 where
  pub from : 1 ≤ worker
  pub to : worker ≤ workers
  pub spelled : words_of text ≡ decimal worker ∷ name_of name ∷ fields

-- the request may stand behind these lines
pub record IsAdmitted (before : List Line) (request : Request) : Type 0 where
  pub room : total_of before + offered_size request ≤ 67108864
  pub unmarked : (mark : ℕ) → request ≡ Mark mark → ¬ IsMarked before mark

-- why it may not
abbrev pub IsBarred : List Line → Request → ℕ → Type 0
IsBarred before request cause =
    ((cause ≡ 8) × (67108864 < total_of before + offered_size request))
    ⊎ ((cause ≡ 9) × ((mark : ℕ) × (request ≡ Mark mark) × IsMarked before mark))

-- what was read of a text: whole lines, and the beginning of the next one
pub record IsFront (reading : Reading) (front : List ℕ) : Type 0 where
  pub texts : List (List ℕ)
  pub lines : AreLines reading.workers texts (lines_read reading)
  pub cut : (rest : List ℕ) → lines_of (front ++ rest) ≡ texts ++ lines_of (reading.begun.items ++ rest)

-- the line that was begun is one too many, or too long with this part
abbrev pub IsTooLong : Reading → List ℕ → Type 0
IsTooLong reading part = (4096 ≤ length (lines_read reading)) ⊎ (8192 < length reading.begun.items + length part)

-- how far the reading is: each byte takes it further
abbrev pub place_of : Reading → ℕ
place_of reading = 8193 * length (lines_read reading) + length reading.begun.items
