-- The lines of a text, and the words of a line.
use Rattle.std.specs.Prelude.{◌≡◌, ℕ, ◌≤◌, ◌==◌, List, [], ◌∷◌, length, decimal, if◌then◌else◌}
use Rattle.std.specs.List.{slice_split}

-- the pieces without the last one where it is empty
abbrev pub without_empty_end : List (List ℕ) → List (List ℕ)
without_empty_end [] = []
without_empty_end (piece ∷ []) = if length piece == 0 then [] else piece ∷ []
without_empty_end (piece ∷ next ∷ pieces) = piece ∷ without_empty_end (next ∷ pieces)

-- the lines of a text, without their line feeds. The last line may lack its own, and where it has it no line follows
unfoldable pub lines_of : List ℕ → List (List ℕ)
lines_of text = without_empty_end (slice_split (λ b. b == 10) text)

-- the words of a line, with a space between each two. Two spaces in a row have an empty word between them
unfoldable pub words_of : List ℕ → List (List ℕ)
words_of line = slice_split (λ b. b == 32) line

-- the bytes that a line may have
abbrev pub IsPrintable : ℕ → Type 0
IsPrintable b = (32 ≤ b) × (b ≤ 126)

-- a number in these bounds, in decimal digits with no leading zero
abbrev pub IsNumber : (least most : ℕ) → List ℕ → Type 0
IsNumber least most word = (n : ℕ) × (least ≤ n) × (n ≤ most) × (word ≡ decimal n)
