-- A header is read field by field, and its fields spell the bytes that it was read from.
use Rattle.std.proofs.Common.{◌≡◌, ℕ, ◌+◌, ◌^◌, ◌<◌, ◌≤◌, List, [], ◌∷◌, zero, suc, ◌++◌, length, take, drop, get_or, ap, ◌∙◌, sym, refl, arith}
use Rattle.std.proofs.lemmas.List.{drop-drop, append-nil, take_all}
use Rattle.std.proofs.lemmas.Grind.{common_steps}
use Rattle.std.proofs.Math.Seq.{take-add}
use Rattle.std.proofs.lemmas.Nat.{le_bytes_4, le_bytes_8, from_le_bytes-to_le_bytes_4, from_le_bytes-to_le_bytes_8}
use Rattle.std.proofs.lemmas.Int.{of_z-to_z, to_z-of_z, ints}
use Rattle.std.specs.Prelude.{ℤ, FitsSigned, All}
use Rattle.std.specs.Int.{w32, from_le_bytes, to_le_bytes, cast_signed, cast_unsigned}
use Rattle.slot_cell.specs.declared.header.Header.{Header}
use Rattle.slot_cell.specs.Header.{header_of, header_bytes, IsInRange}

-- what is left behind one field more
pub next_rest : (bytes before after : List ℕ) (at size : ℕ) → after ≡ drop size before → before ≡ drop at bytes → after ≡ drop (at + size) bytes
next_rest bytes before after at size e was = e ∙ ap (drop size) was ∙ drop-drop size at bytes

-- a field that is read at its place
pub read_at : {N : Type 0} (f : List ℕ → N) (bytes rest part : List ℕ) (at size : ℕ) (n : N) → n ≡ f part → part ≡ take size rest → rest ≡ drop at bytes → n ≡ f (take size (drop at bytes))
read_at f bytes rest part at size n is taken there = is ∙ ap f taken ∙ ap (λ r. f (take size r)) there

-- a header of these fields, with its numbers for plain variables
abbrev fields : ℕ → ℕ → ℕ → ℕ → ℕ → ℤ → ℤ → Header
fields k0 k1 entry_size payload_size version first_slot next_slot =
    record { k0 = k0; k1 = k1; entry_size = entry_size; payload_size = payload_size; version = version; first_slot = first_slot; next_slot = next_slot }

-- headers of equal fields are equal
pub same_header : {a b c d e a' b' c' d' e' : ℕ} {f g f' g' : ℤ} → a ≡ a' → b ≡ b' → c ≡ c' → d ≡ d' → e ≡ e' → f ≡ f' → g ≡ g' → fields a b c d e f g ≡ fields a' b' c' d' e' f' g'
same_header p q r s t u v = cc

abbrev IsBytes : List ℕ → Type 0
IsBytes bytes = (i : ℕ) → get_or bytes i 0 < 256

all_bytes : (bytes : List ℕ) → All (λ byte. byte < 256) bytes → IsBytes bytes
all_bytes [] small i = omega arith
all_bytes (b ∷ bytes) small zero = small 0 0 (omega arith)
all_bytes (b ∷ bytes) small (suc i) = all_bytes bytes (λ k d below. small (suc k) d (omega arith)) i

small_in_front : (bytes : List ℕ) (size : ℕ) → IsBytes bytes → IsBytes (take size bytes)
small_in_front [] zero small i = small i
small_in_front [] (suc size) small i = small i
small_in_front (b ∷ bytes) zero small i = omega arith
small_in_front (b ∷ bytes) (suc size) small zero = small 0
small_in_front (b ∷ bytes) (suc size) small (suc i) = small_in_front bytes size (λ j. small (suc j)) i

small_behind : (bytes : List ℕ) (at : ℕ) → IsBytes bytes → IsBytes (drop at bytes)
small_behind [] zero small i = small i
small_behind [] (suc at) small i = small i
small_behind (b ∷ bytes) zero small i = small i
small_behind (b ∷ bytes) (suc at) small i = small_behind bytes at (λ j. small (suc j)) i

small_part : (bytes : List ℕ) (at size : ℕ) → IsBytes bytes → IsBytes (take size (drop at bytes))
small_part bytes at size small = small_in_front (drop at bytes) size (small_behind bytes at small)

part_length : (bytes : List ℕ) (at size : ℕ) → at + size ≤ length bytes → length (take size (drop at bytes)) ≡ size
part_length bytes at size room = grind (arith, common_steps)

-- bytes of a field behind those before it
one_more : (bytes front part : List ℕ) (at size : ℕ) → front ≡ take at bytes → part ≡ take size (drop at bytes) → front ++ part ≡ take (at + size) bytes
one_more bytes front part at size was is = ap (λ f. f ++ part) was ∙ ap (λ p. take at bytes ++ p) is ∙ sym (take-add at size bytes)

signed_bytes : (part : List ℕ) → length part ≡ 4 → IsBytes part → to_le_bytes w32 (cast_unsigned w32 (cast_signed w32 (from_le_bytes w32 part))) ≡ part
signed_bytes part four small =
    let fits : from_le_bytes w32 part < 2 ^ 32 = omega (arith, small 0, small 1, small 2, small 3) in
    ap (to_le_bytes w32) (of_z-to_z w32 (from_le_bytes w32 part) fits) ∙ le_bytes_4 part _ four small refl

signed_again : (z : ℤ) → FitsSigned w32 z → cast_signed w32 (from_le_bytes w32 (to_le_bytes w32 (cast_unsigned w32 z))) ≡ z
signed_again z fits =
    let small : cast_unsigned w32 z < 2 ^ 32 = omega (arith, ints) in
    ap (cast_signed w32) (from_le_bytes-to_le_bytes_4 (cast_unsigned w32 z) small) ∙ to_z-of_z w32 z fits

-- the header that was read from bytes spells them
pub header_bytes-header_of : (bytes : List ℕ) → IsBytes bytes → 40 ≤ length bytes → header_bytes (header_of bytes) ≡ take 40 bytes
unfolding header_of header_bytes
header_bytes-header_of bytes small room =
    let eight = λ (at : ℕ) (within : at + 8 ≤ length bytes). le_bytes_8 (take 8 (drop at bytes)) _ (part_length bytes at 8 within) (small_part bytes at 8 small) refl in
    let four = λ (at : ℕ) (within : at + 4 ≤ length bytes). le_bytes_4 (take 4 (drop at bytes)) _ (part_length bytes at 4 within) (small_part bytes at 4 small) refl in
    let signed = λ (at : ℕ) (within : at + 4 ≤ length bytes). signed_bytes (take 4 (drop at bytes)) (part_length bytes at 4 within) (small_part bytes at 4 small) in
    let to8 = eight 0 (omega arith) in
    let to16 = one_more bytes _ _ 8 8 to8 (eight 8 (omega arith)) in
    let to24 = one_more bytes _ _ 16 8 to16 (eight 16 (omega arith)) in
    let to28 = one_more bytes _ _ 24 4 to24 (four 24 (omega arith)) in
    let to32 = one_more bytes _ _ 28 4 to28 (four 28 (omega arith)) in
    let to36 = one_more bytes _ _ 32 4 to32 (signed 32 (omega arith)) in
    one_more bytes _ _ 36 4 to36 (signed 36 (omega arith))

-- the header that bytes spell is the one that is read from them
pub header_of-header_bytes : (h : Header) (rest : List ℕ) → IsInRange h → header_of (header_bytes h ++ rest) ≡ h
unfolding header_of header_bytes
header_of-header_bytes h rest fits =
    same_header
    (from_le_bytes-to_le_bytes_8 h.k0 fits.k0)
    (from_le_bytes-to_le_bytes_8 h.k1 fits.k1)
    (from_le_bytes-to_le_bytes_8 h.entry_size fits.entry_size)
    (from_le_bytes-to_le_bytes_4 h.payload_size fits.payload_size)
    (from_le_bytes-to_le_bytes_4 h.version fits.version)
    (signed_again h.first_slot fits.first_slot)
    (signed_again h.next_slot fits.next_slot)

-- the same of a header alone
pub header_of-alone : (h : Header) → IsInRange h → header_of (header_bytes h) ≡ h
header_of-alone h fits = ap header_of (sym (append-nil (header_bytes h))) ∙ header_of-header_bytes h [] fits

-- 40 bytes are spelled by the header that is read from them
pub header_bytes-alone : (bytes : List ℕ) → length bytes ≡ 40 → All (λ byte. byte < 256) bytes → header_bytes (header_of bytes) ≡ bytes
header_bytes-alone bytes forty small =
    let each : IsBytes bytes = λ i. all_bytes bytes small i in
    let room : 40 ≤ length bytes = omega arith in
    let whole : length bytes ≤ 40 = omega arith in
    header_bytes-header_of bytes each room ∙ take_all 40 bytes whole
