-- How long texts of bytes are.
use Rattle.std.proofs.Common.{◌≡◌, ◌==◌, ℕ, ◌*◌, ◌^◌, ◌<◌, false, List, [], ◌∷◌, length, refl, ap, ◌∙◌, Option, Some, None, arith}
use Rattle.std.specs.Prelude.{SomeIff}
use Rattle.hex.specs.Hex.{encode_lower, lower_digits}
use Rattle.hex.proofs.HexLemmas.{length-encode_with}
use Rattle.answer_text.specs.Parts.{bytes_text}
use Rattle.answer_text.specs.Fields.{Counts}

-- each byte has two digits
pub digits_length : (bytes : List ℕ) → length (encode_lower bytes) ≡ 2 * length bytes
digits_length bytes = length-encode_with lower_digits bytes

-- bytes that there are have their digits
pub some_bytes : (bytes : List ℕ) → (length bytes == 0) ≡ false → bytes_text bytes ≡ encode_lower bytes
some_bytes [] none = cc
some_bytes (b ∷ bytes) some = refl

-- their digits are counted wherever a machine can count as many
pub some_bytes_count : (bytes : List ℕ) (count : Option ℕ) → (length bytes == 0) ≡ false → SomeIff count (length bytes * 2 < 2 ^ 64) (length bytes * 2)
    → Counts count (length (bytes_text bytes))
some_bytes_count bytes None some count = let digits = ap length (some_bytes bytes some) ∙ digits_length bytes in omega (arith, count)
some_bytes_count bytes (Some n) some count = let digits = ap length (some_bytes bytes some) ∙ digits_length bytes in omega (arith, count.1)
