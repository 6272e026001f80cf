-- What the image of a piece says.
use Rattle.std.proofs.Common.{rules, ◌≡◌, ◌+◌, ◌-◌, ◌<◌, ◌^◌, ◌==◌, ℕ, zero, suc, List, [], ◌∷◌, ◌++◌, length, take, drop, get_or, cond, true, false, arith, refl, ap, sym, ◌∙◌, subst}
use Rattle.std.specs.Prelude.{ℤ, FitsSigned, replicate}
use Rattle.std.proofs.lemmas.List.{append_assoc, length-take, length-drop, get_or-drop, take-append-drop}
use Rattle.std.proofs.Math.Seq.{take-append_seam}
use Rattle.std.proofs.lemmas.Nat.{le_bytes_8}
use Rattle.std.specs.Int.{w32, w64, to_le_bytes, from_le_bytes, cast_unsigned}
use Rattle.slot_cell.specs.Header.{header_bytes, IsInRange}
use Rattle.store_key.specs.Key.{key_of}
use Rattle.entry_cut.specs.Content.{Cut, content, count, payload, header, image}

abbrev pub IsBytes : List ℕ → Type 0
IsBytes bytes = (i : ℕ) → get_or bytes i 0 < 256

front_bytes : (key : List ℕ) (n : ℕ) → IsBytes key → IsBytes (take n key)
front_bytes [] zero small i = small i
front_bytes [] (suc n) small i = small i
front_bytes (b ∷ key) zero small i = omega arith
front_bytes (b ∷ key) (suc n) small zero = small 0
front_bytes (b ∷ key) (suc n) small (suc i) = front_bytes key n (λ j. small (suc j)) i

back_bytes : (key : List ℕ) (n : ℕ) → IsBytes key → IsBytes (drop n key)
back_bytes key n small i = subst (λ b. b < 256) (sym (get_or-drop n key i 0)) (small (n + i))

eight_fit : (bytes : List ℕ) → IsBytes bytes → from_le_bytes w64 bytes < 2 ^ 64
eight_fit bytes small = omega (arith, small 0, small 1, small 2, small 3, small 4, small 5, small 6, small 7)

-- a header begins with the bytes of its key
key_in_front : (key behind : List ℕ) → IsBytes key → length key ≡ 16 → take 16 (to_le_bytes w64 (from_le_bytes w64 (take 8 key)) ++ to_le_bytes w64 (from_le_bytes w64 (drop 8 key)) ++ behind) ≡ key
key_in_front key behind small long =
    let front : length (take 8 key) ≡ 8 = length-take 8 key ∙ omega (arith, long) in
    let back : length (drop 8 key) ≡ 8 = length-drop 8 key ∙ omega (arith, long) in
    let first = le_bytes_8 (take 8 key) _ front (front_bytes key 8 small) refl in
    let second = le_bytes_8 (drop 8 key) _ back (back_bytes key 8 small) refl in
    let whole : to_le_bytes w64 (from_le_bytes w64 (take 8 key)) ++ to_le_bytes w64 (from_le_bytes w64 (drop 8 key)) ≡ key =
    ap (λ a. a ++ to_le_bytes w64 (from_le_bytes w64 (drop 8 key))) first ∙ ap (λ b. take 8 key ++ b) second ∙ take-append-drop 8 key in
    ap (λ a. take 16 (a ++ behind)) whole ∙ (ap (λ n. take n (key ++ behind)) (sym long) ∙ take-append_seam key behind)

behind_front : (x e p v f n y z : List ℕ) → x ++ e ++ p ++ v ++ f ++ n ++ y ++ z ≡ x ++ (e ++ p ++ v ++ f ++ n ++ y ++ z)
behind_front x e p v f n y z =
    let three = append_assoc x e p in
    let four = ap (λ l. l ++ v) three ∙ append_assoc x (e ++ p) v in
    let five = ap (λ l. l ++ f) four ∙ append_assoc x (e ++ p ++ v) f in
    let six = ap (λ l. l ++ n) five ∙ append_assoc x (e ++ p ++ v ++ f) n in
    let seven = ap (λ l. l ++ y) six ∙ append_assoc x (e ++ p ++ v ++ f ++ n) y in
    ap (λ l. l ++ z) seven ∙ append_assoc x (e ++ p ++ v ++ f ++ n ++ y) z

key_of_fields : (key e p v f n y z : List ℕ) → IsBytes key → length key ≡ 16
    → take 16 (to_le_bytes w64 (from_le_bytes w64 (take 8 key)) ++ to_le_bytes w64 (from_le_bytes w64 (drop 8 key)) ++ e ++ p ++ v ++ f ++ n ++ y ++ z) ≡ key
key_of_fields key e p v f n y z small long =
    let front = to_le_bytes w64 (from_le_bytes w64 (take 8 key)) ++ to_le_bytes w64 (from_le_bytes w64 (drop 8 key)) in
    ap (take 16) (behind_front front e p v f n y z) ∙ key_in_front key (e ++ p ++ v ++ f ++ n ++ y ++ z) small long

pub key_of_image : (c : Cut) (k : ℕ) (next : ℤ) → IsBytes (key_of c.url) → length (key_of c.url) ≡ 16 → take 16 (image c k next) ≡ key_of c.url
unfolding header_bytes
key_of_image c k next small long =
    let h = header c k next in
    key_of_fields (key_of c.url) (to_le_bytes w64 h.entry_size) (to_le_bytes w32 h.payload_size) (to_le_bytes w32 h.version) (to_le_bytes w32 (cast_unsigned w32 h.first_slot)) (to_le_bytes w32 (cast_unsigned w32 h.next_slot)) (payload c k)
    (replicate (c.slot - 40 - length (payload c k)) 0) small long

-- the header of a piece can be written
pub header_in_range : (c : Cut) (k : ℕ) (next : ℤ) → IsBytes (key_of c.url) → length (content c) < 2 ^ 64 → length (payload c k) < 2 ^ 32 → c.version < 2 ^ 32 → c.first < 2 ^ 31 → FitsSigned w32 next → IsInRange (header c k next)
header_in_range c k next small size part version first fits = record {
  k0 = eight_fit (take 8 (key_of c.url)) (front_bytes (key_of c.url) 8 small);
  k1 = eight_fit (drop 8 (key_of c.url)) (back_bytes (key_of c.url) 8 small);
  entry_size = elim (k + 1 == count c) as (λ b. cond b (length (content c)) 0 < 2 ^ 64) [ true ↦ size | false ↦ omega arith ];
  payload_size = part;
  version = version;
  first_slot = search rules;
  next_slot = fits;
}
