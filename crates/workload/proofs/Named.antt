-- The URLs of a benchmark are URLs.
use Rattle.std.proofs.Common.{◌≡◌, ◌≢◌, ℕ, ◌+◌, ◌%◌, ◌^◌, ◌<◌, ◌≤◌, Bool, true, ◌&&◌, ltb, List, [], ◌∷◌, ◌++◌, All, codes, decimal, length, arith, refl, length-append}
use Rattle.std.proofs.lemmas.Bool.{and_parts, ltb-true}
use Rattle.std.proofs.lemmas.Fmt.{decimal_by_steps, length-decimal-le}
use Rattle.std.proofs.lemmas.List.Elements.{All-nil, All-cons, All-append}
use Rattle.store_key.specs.Url.{IsUrl, IsUrlByte}
use Rattle.workload.specs.Urls.{url_of}

-- a test of a text that computes
is_named : List ℕ → Bool
is_named [] = true
is_named (b ∷ text) = (ltb 32 b && ltb b 127) && is_named text

named_by_test : (text : List ℕ) → is_named text ≡ true → All IsUrlByte text
unfolding is_named
named_by_test [] test = All-nil IsUrlByte
named_by_test (b ∷ text) test =
    let parts = and_parts (ltb 32 b && ltb b 127) (is_named text) test in
    let byte = and_parts (ltb 32 b) (ltb b 127) parts.0 in
    let low = ltb-true 32 b byte.0 in
    let high = ltb-true b 127 byte.1 in
    All-cons IsUrlByte b text (omega arith, omega arith) (named_by_test text parts.1)

digits_named : (n : ℕ) → n < 2 ^ 64 → All IsUrlByte (decimal n)
digits_named n fits = decimal_by_steps (λ m text. All IsUrlByte text)
    (λ m small. All-cons IsUrlByte (48 + m) [] (omega arith, omega arith) (All-nil IsUrlByte))
    (λ m text large digits. All-append IsUrlByte text ((48 + m % 10) ∷ []) digits (All-cons IsUrlByte (48 + m % 10) [] (omega arith, omega arith) (All-nil IsUrlByte)))
    n fits

front_named : All IsUrlByte (codes "http://bench/")
unfolding is_named
front_named = named_by_test (codes "http://bench/") refl

some_behind : (rest : List ℕ) → codes "http://bench/" ++ rest ≢ []
some_behind rest e = cc

-- a URL has at most 17 bytes
pub url_short : (n : ℕ) → n < 10000 → length (url_of n) ≤ 17
unfolding url_of
url_short n small =
    let fits : n < 2 ^ 64 = omega arith in
    let digits = length-decimal-le 4 n (omega arith) small fits in
    let long = length-append (codes "http://bench/") (decimal n) in
    omega (arith, long, digits)

pub url_named : (n : ℕ) → n < 10000 → IsUrl (url_of n)
unfolding url_of
url_named n small =
    let fits : n < 2 ^ 64 = omega arith in
    let digits = length-decimal-le 4 n (omega arith) small fits in
    let long = length-append (codes "http://bench/") (decimal n) in
    let bytes = All-append IsUrlByte (codes "http://bench/") (decimal n) front_named (digits_named n fits) in
    record {
      some = some_behind (decimal n);
      short = omega (arith, long, digits);
      bytes = λ k lt. bytes k 0 lt;
    }
