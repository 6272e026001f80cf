-- The bytes of a body.
use Rattle.std.proofs.Common.{[], ◌≡◌, ℕ, ◌+◌, ◌-◌, ◌<◌, ◌≤◌, ◌∙◌, List, ap, arith, drop, get_or, length, map, sym, take}
use Rattle.std.specs.Prelude.{Err, IfOk, Ok, Result, ◌%◌, ◌≢◌}
use Rattle.std.specs.List.{range_with_len}
use Rattle.std.proofs.lemmas.List.{ext_get_or, get_or-drop, get_or-take, length-drop, length-take-le}
use Rattle.std.proofs.lemmas.List.FromFn.{get_or-map-range_with_len, length-map-range_with_len}

pub letters_many : (shift count : ℕ) → length (map (λ i. 97 + (i + shift) % 26) (range_with_len 0 count)) ≡ count
letters_many shift count = length-map-range_with_len (λ i. 97 + (i + shift) % 26) 0 count

-- the letter at a place
letter_at : (shift count i : ℕ) → i < count → get_or (map (λ i. 97 + (i + shift) % 26) (range_with_len 0 count)) i 0 ≡ 97 + (i + shift) % 26
letter_at shift count i lt = get_or-map-range_with_len (λ i. 97 + (i + shift) % 26) 0 count i i 0 lt (omega arith)

-- letters that were made one by one are those of the body
pub made_letters : (shift count from : ℕ) (piece : List ℕ) → from + length piece ≤ count → ((i : ℕ) → i < length piece → get_or piece i 0 ≡ 97 + (from + i + shift) % 26)
    → piece ≡ take (length piece) (drop from (map (λ i. 97 + (i + shift) % 26) (range_with_len 0 count)))
made_letters shift count from piece within each = ext_get_or 0 piece _ (sym long) same
  where
    whole : List ℕ
    whole = map (λ i. 97 + (i + shift) % 26) (range_with_len 0 count)

    left : length (drop from whole) ≡ length whole - from
    left = length-drop from whole

    long : length (take (length piece) (drop from whole)) ≡ length piece
    long = length-take-le (length piece) (drop from whole) (let a = left in let b = letters_many shift count in omega arith)

    same : (i : ℕ) → i < length piece → get_or piece i 0 ≡ get_or (take (length piece) (drop from whole)) i 0
    same i lt = each i lt ∙ sym (get_or-take (length piece) (drop from whole) i 0 lt ∙ get_or-drop from whole i 0 ∙ letter_at shift count (from + i) (omega arith))

-- bytes cut out of a text are its next ones
pub next_ones : (body : List ℕ) (from count : ℕ) → from + count ≤ length body → take count (drop from body) ≡ take (length (take count (drop from body))) (drop from body)
next_ones body from count within = ap (λ n. take n (drop from body)) (sym (length-take-le count (drop from body) (let l = length-drop from body in omega arith)))

-- so are the first ones of a piece that was made
pub taken_letters : (shift count from upto few : ℕ) (piece : List ℕ) → length piece ≡ 512 → few ≤ 512 → from + few ≤ upto → upto ≤ count → ((i : ℕ) → i < 512 → get_or piece i 0 ≡ 97 + (from + i + shift) % 26)
    → take few piece ≡ take (length (take few piece)) (drop from (map (λ i. 97 + (i + shift) % 26) (range_with_len 0 count)))
taken_letters shift count from upto few piece long little within inside each = made_letters shift count from (take few piece) (let l = taken_long in omega arith)
    (λ i lt. get_or-take few piece i 0 (let l = taken_long in omega arith) ∙ each i (let l = taken_long in omega arith))
  where
    taken_long : length (take few piece) ≡ few
    taken_long = length-take-le few piece (omega arith)

pub some_bytes : (xs : List ℕ) → 0 < length xs → xs ≢ []
some_bytes xs some none = absurd (let z = ap length none in omega arith)

pub both_ok : {X E : Type 0} (P Q : X → Type 0) (r : Result X E) → IfOk r P → IfOk r Q → IfOk r (λ x. P x × Q x)
both_ok P Q (Ok x) p q = (p, q)
both_ok P Q (Err e) p q = tt
