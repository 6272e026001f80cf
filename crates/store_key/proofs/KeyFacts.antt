-- What a key is: 16 bytes.
use Rattle.std.proofs.Common.{◌≡◌, ◌<◌, ℕ, zero, suc, List, [], ◌∷◌, ◌++◌, length, get_or, arith}
use Rattle.std.specs.Prelude.{slice_index}
use Rattle.std.specs.Int.{w32, to_le_bytes}
use Rattle.md5.specs.Md5.{md5, digest_bytes}
use Rattle.md5.proofs.StandardFacts.{length-md5}
use Rattle.store_key.specs.Key.{key_of}

abbrev pub IsBytes : List ℕ → Type 0
IsBytes bytes = (i : ℕ) → get_or bytes i 0 < 256

pub nil_bytes : IsBytes []
nil_bytes i = omega arith

number_bytes : (n : ℕ) → IsBytes (to_le_bytes w32 n)
number_bytes n zero = omega arith
number_bytes n (suc zero) = omega arith
number_bytes n (suc (suc zero)) = omega arith
number_bytes n (suc (suc (suc zero))) = omega arith
number_bytes n (suc (suc (suc (suc i)))) = omega arith

append_bytes : (xs ys : List ℕ) → IsBytes xs → IsBytes ys → IsBytes (xs ++ ys)
append_bytes [] ys x y i = y i
append_bytes (a ∷ xs) ys x y zero = x 0
append_bytes (a ∷ xs) ys x y (suc i) = append_bytes xs ys (λ i. x (suc i)) y i

digest_is_bytes : (h : List ℕ) (n : ℕ) → IsBytes (digest_bytes h n)
unfolding digest_bytes
digest_is_bytes h zero = nil_bytes
digest_is_bytes h (suc n) = append_bytes (digest_bytes h n) (to_le_bytes w32 (slice_index h n)) (digest_is_bytes h n) (number_bytes (slice_index h n))

pub key_is_bytes : (url : List ℕ) → IsBytes (key_of url)
unfolding md5
key_is_bytes url = digest_is_bytes _ 4

pub key_is_long : (url : List ℕ) → length (key_of url) ≡ 16
key_is_long url = length-md5 _
