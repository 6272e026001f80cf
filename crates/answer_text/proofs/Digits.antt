-- Digits that are added piece by piece.
use Rattle.std.proofs.Common.{◌+◌, ◌-◌, ◌++◌, ◌≡◌, ◌≤◌, ◌∙◌, [], ◌∷◌, List, ap, append_assoc, arith, drop, length, refl, subst, sym, take, ℕ}
use Rattle.std.specs.Prelude.{slice_index, ◌/◌, ◌%◌}
use Rattle.std.proofs.Math.Seq.{take-add}
use Rattle.std.proofs.lemmas.List.{append-nil, length-append, length-drop, length-take-le}
use Rattle.hex.specs.Hex.{encode_lower, encode_with, lower_digits}
use Rattle.rock_io.specs.LineBuffer.{Adds, HasRoom, held_of}
use Rattle.rock_io.specs.declared.line_buffer.LineBuffer.{LineBuffer}
use Rattle.answer_text.proofs.Sizes.{digits_length}

-- no digit was added yet
pub none_added : (line : LineBuffer) → Adds line line (encode_lower [])
unfolding encode_with
none_added line = record { held = sym (append-nil (held_of line)); count = omega arith; size = refl }

-- the digits of some bytes, and of others behind them
digits_append : (front back : List ℕ) → encode_lower (front ++ back) ≡ encode_lower front ++ encode_lower back
unfolding encode_with
digits_append [] back = refl
digits_append (b ∷ front) back = ap (λ l. slice_index lower_digits (b / 16) ∷ slice_index lower_digits (b % 16) ∷ l) (digits_append front back)

-- the next bytes of a text
next_length : (bytes : List ℕ) (taken upto : ℕ) → taken ≤ upto → upto ≤ length bytes → length (take (upto - taken) (drop taken bytes)) ≡ upto - taken
next_length bytes taken upto order within = length-take-le (upto - taken) (drop taken bytes) (let l = length-drop taken bytes in omega arith)

next_bytes : (bytes : List ℕ) (taken upto : ℕ) → taken ≤ upto → take upto bytes ≡ take taken bytes ++ take (upto - taken) (drop taken bytes)
next_bytes bytes taken upto order = ap (λ n. take n bytes) (let whole : upto ≡ taken + (upto - taken) = omega arith in whole) ∙ take-add taken (upto - taken) bytes

-- there is room for their digits
pub room_for_next : (before line : LineBuffer) (bytes : List ℕ) (taken upto : ℕ) → taken ≤ upto → upto ≤ length bytes → HasRoom before (encode_lower bytes)
    → Adds before line (encode_lower (take taken bytes)) → HasRoom line (encode_lower (take (upto - taken) (drop taken bytes)))
room_for_next before line bytes taken upto order within room adds =
    let whole = digits_length bytes in let part = digits_length (take taken bytes) in let next = digits_length (take (upto - taken) (drop taken bytes)) in
    let short = length-take-le taken bytes (omega arith) in let few = next_length bytes taken upto order within in
    let count = adds.count in let size = adds.size in omega arith

-- their digits were added
pub next_added : (before line after : LineBuffer) (bytes : List ℕ) (taken upto : ℕ) → taken ≤ upto → Adds before line (encode_lower (take taken bytes))
    → Adds line after (encode_lower (take (upto - taken) (drop taken bytes))) → Adds before after (encode_lower (take upto bytes))
next_added before line after bytes taken upto order adds next =
    subst (λ text. Adds before after text) (sym (ap encode_lower (next_bytes bytes taken upto order) ∙ digits_append front back))
    (record {
      held = next.held ∙ ap (λ l. l ++ encode_lower back) adds.held ∙ append_assoc (held_of before) (encode_lower front) (encode_lower back);
      count = let a = adds.count in let b = next.count in let l = length-append (encode_lower front) (encode_lower back) in omega arith;
      size = next.size ∙ adds.size;
    })
  where
    front : List ℕ
    front = take taken bytes

    back : List ℕ
    back = take (upto - taken) (drop taken bytes)
