-- The letters that stand in the program.
use Rattle.std.proofs.Common.{◌≡◌, ℕ, ◌+◌, ◌-◌, ◌<◌, ◌∙◌, ap, arith, drop, get_or, map, refl, take}
use Rattle.std.specs.Prelude.{◌%◌}
use Rattle.std.specs.List.{range_with_len}
use Rattle.std.proofs.lemmas.List.{get_or-drop, get_or-take}
use Rattle.std.proofs.lemmas.List.FromFn.{get_or-map-range_with_len}
use Rattle.store_serve.specs.declared.bodies.TheConstants.{LETTERS}

-- the letters are those of the alphabet, over and over
alphabets : LETTERS ≡ map (λ i. 97 + i % 26) (range_with_len 0 546)
alphabets = refl

letter_at : (i : ℕ) → i < 546 → get_or LETTERS i 0 ≡ 97 + i % 26
letter_at i lt = ap (λ l. get_or l i 0) alphabets ∙ get_or-map-range_with_len (λ i. 97 + i % 26) 0 546 i i 0 lt (omega arith)

-- a piece of them
pub cut_letter : (first i : ℕ) → first < 26 → i < 512 → get_or (take (first + 512 - first) (drop first LETTERS)) i 0 ≡ 97 + (first + i) % 26
cut_letter first i low lt = get_or-take (first + 512 - first) (drop first LETTERS) i 0 (omega arith) ∙ get_or-drop first LETTERS i 0 ∙ letter_at (first + i) (omega arith)

-- where it begins may be told by the place in a body
pub shifted : (from shift i : ℕ) → ((from % 26 + shift) % 26 + i) % 26 ≡ (from + i + shift) % 26
shifted from shift i = omega arith
