-- Good lines, behind those before them.
use Rattle.std.specs.Prelude.{◌≡◌, ℕ, ◌+◌, ◌<◌, ◌≤◌, List, [], ◌∷◌, ◌++◌, length, sum_by, All, Contains, decimal}
use Rattle.script_text.specs.Words.{words_of, IsPrintable}
use Rattle.script_text.specs.Requests.{name_of, SpellsRequest, offered_size}
use Rattle.script_text.specs.declared.line.Line.{Line}
use Rattle.script_text.specs.declared.request.Request.TheVariants.{Mark}
use Rattle.script_text.specs.declared.verb.Verb.{Verb}

-- how many bytes these lines offer to store
abbrev pub total_of : List Line → ℕ
total_of lines = sum_by (λ line. offered_size line.request) lines

-- one of these lines sets the mark
abbrev pub IsMarked : List Line → ℕ → Type 0
IsMarked lines mark = (line : Line) × Contains lines line × (line.request ≡ Mark mark)

-- the text is a good line behind these, where there are so many workers
pub record IsLine (workers : ℕ) (before : List Line) (text : List ℕ) (line : Line) : Type 0 where
  pub few : length before < 4096
  pub short : length text ≤ 8192
  pub printable : All IsPrintable text
  pub numbered : line.number ≡ length before + 1
  pub from : 1 ≤ line.worker
  pub to : line.worker ≤ workers
  pub name : Verb
  pub fields : List (List ℕ)
  pub spelled : words_of text ≡ decimal line.worker ∷ name_of name ∷ fields
  pub request : SpellsRequest line.request name fields
  pub room : total_of before + offered_size line.request ≤ 67108864
  pub unmarked : (mark : ℕ) → line.request ≡ Mark mark → ¬ IsMarked before mark

-- the texts are good lines, each behind those before it
pub data AreLines (workers : ℕ) : List (List ℕ) → List Line → Type 0 where
  no_line : AreLines workers [] []
  one_more : {texts : List (List ℕ)} {lines : List Line} {text : List ℕ} {line : Line} → AreLines workers texts lines → IsLine workers lines text line
      → AreLines workers (texts ++ text ∷ []) (lines ++ line ∷ [])
