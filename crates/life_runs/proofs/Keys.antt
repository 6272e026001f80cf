-- The halves of a key are the key.
use Rattle.std.proofs.Common.{◌≡◌, ◌<◌, ◌+◌, ℕ, zero, suc, List, [], ◌∷◌, ◌++◌, length, take, drop, refl, ap, sym, ◌∙◌, subst, arith}
use Rattle.std.proofs.lemmas.List.{length-take, length-drop, get_or-drop, take-append-drop}
use Rattle.std.proofs.lemmas.Nat.{le_bytes_8}
use Rattle.std.specs.Int.{w64, to_le_bytes, from_le_bytes}
use Rattle.entry_cut.proofs.Images.{IsBytes}
use Rattle.named_rebuild.specs.Entries.{key_of_halves}

front_bytes : (key : List ℕ) (n : ℕ) → IsBytes key → IsBytes (take n key)
front_bytes [] zero small i = small i
front_bytes [] (suc n) small i = small i
front_bytes (b ∷ key) zero small i = omega arith
front_bytes (b ∷ key) (suc n) small zero = small 0
front_bytes (b ∷ key) (suc n) small (suc i) = front_bytes key n (λ j. small (suc j)) i

back_bytes : (key : List ℕ) (n : ℕ) → IsBytes key → IsBytes (drop n key)
back_bytes key n small i = subst (λ b. b < 256) (sym (get_or-drop n key i 0)) (small (n + i))

pub halves_are : (key : List ℕ) → IsBytes key → length key ≡ 16 → key_of_halves (from_le_bytes w64 (take 8 key)) (from_le_bytes w64 (drop 8 key)) ≡ key
halves_are key small long =
    let front : length (take 8 key) ≡ 8 = length-take 8 key ∙ omega (arith, long) in
    let back : length (drop 8 key) ≡ 8 = length-drop 8 key ∙ omega (arith, long) in
    let first = le_bytes_8 (take 8 key) _ front (front_bytes key 8 small) refl in
    let second = le_bytes_8 (drop 8 key) _ back (back_bytes key 8 small) refl in
    ap (λ a. a ++ to_le_bytes w64 (from_le_bytes w64 (drop 8 key))) first ∙ ap (λ b. take 8 key ++ b) second ∙ take-append-drop 8 key
