-- The words of a line as the writer has them.
use Rattle.std.specs.Prelude.{◌≡◌, ℕ, ◌≤◌, ◌^◌, List, [], ◌∷◌, decimal, Option, Some, None, MatchOption}
use Rattle.answer_text.specs.Parts.{epoch_text, word_text, key_text, bytes_text}
use Rattle.answer_text.specs.declared.field.Field.{Field}
use Rattle.answer_text.specs.declared.field.Field.TheVariants as field

-- a word as text
abbrev pub field_text : Field → List ℕ
field_text (field.Name text) = text.now
field_text (field.Number number) = decimal number
field_text (field.Epoch epoch) = epoch_text epoch
field_text (field.Word word) = word_text word
field_text (field.Key key) = key_text key
field_text (field.Bytes bytes) = bytes_text bytes.now

-- the words that are there
abbrev pub field_words : List (Option Field) → List (List ℕ)
field_words [] = []
field_words (None ∷ fields) = field_words fields
field_words (Some field ∷ fields) = field_text field ∷ field_words fields

-- the count is this number of bytes, and None where it is more than a machine can count
abbrev pub Counts : Option ℕ → ℕ → Type 0
Counts count bytes = MatchOption count (2 ^ 64 ≤ bytes) (λ n. n ≡ bytes)
