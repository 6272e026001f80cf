-- One item stands at the front of bytes.
use Rattle.std.proofs.Common.{◌≡◌, ℕ, ◌^◌, ◌<◌, List, ◌++◌, length, get_or, take, drop, refl, sym, ap, ◌∙◌, arith}
use Rattle.std.specs.Int.{w32, to_le_bytes, from_le_bytes}
use Rattle.std.proofs.lemmas.List.{take_at, drop_at}
use Rattle.std.proofs.lemmas.Nat.{from_le_bytes-to_le_bytes_4}
use Rattle.swap_meta.proofs.Walk.{length-item_bytes}
use Rattle.swap_meta.specs.Meta.{Item, item_bytes}

-- a length is written in one way
le_bytes_same : (m n : ℕ) → m < 2 ^ 32 → n < 2 ^ 32 → to_le_bytes w32 m ≡ to_le_bytes w32 n → m ≡ n
le_bytes_same m n m-fits n-fits e = sym (from_le_bytes-to_le_bytes_4 m m-fits) ∙ ap (from_le_bytes w32) e ∙ from_le_bytes-to_le_bytes_4 n n-fits

same_item : (i j : Item) → i.kind ≡ j.kind → i.value ≡ j.value → i ≡ j
same_item i j kinds values = ap (λ (k : ℕ). record { kind = k; value = i.value }) kinds ∙ ap (λ (v : List ℕ). record { kind = j.kind; value = v }) values

-- two lists of one length, each with more behind it, that make the same list
same_front : (v w a b : List ℕ) → length v ≡ length w → v ++ a ≡ w ++ b → (v ≡ w) × (a ≡ b)
same_front v w a b lengths e = (
  sym (take_at v a (length v) refl) ∙ ap (take (length v)) e ∙ take_at w b (length v) (sym lengths),
  sym (drop_at v a (length v) refl) ∙ ap (drop (length v)) e ∙ drop_at w b (length v) (sym lengths),
)

-- the item at the front of bytes is one, and so is what stands behind it
pub same_next : (i j : Item) (a b : List ℕ) → length (item_bytes i ++ a) < 2 ^ 32 → item_bytes i ++ a ≡ item_bytes j ++ b → (i ≡ j) × (a ≡ b)
same_next i j a b fits e =
    let long : length (item_bytes i ++ a) ≡ length (item_bytes j ++ b) = ap length e in
    let i-fits : length i.value < 2 ^ 32 = omega (arith, length-item_bytes i a) in
    let j-fits : length j.value < 2 ^ 32 = omega (arith, length-item_bytes j b, long) in
    let coded : to_le_bytes w32 (length i.value) ≡ to_le_bytes w32 (length j.value) = ap (λ (xs : List ℕ). take 4 (drop 1 xs)) e in
    let lengths = le_bytes_same (length i.value) (length j.value) i-fits j-fits coded in
    let behind : i.value ++ a ≡ j.value ++ b = ap (λ (xs : List ℕ). drop 5 xs) e in
    let kinds : i.kind ≡ j.kind = ap (λ (xs : List ℕ). get_or xs 0 0) e in
    let both = same_front i.value j.value a b lengths behind in
    (same_item i j kinds both.0, both.1)
