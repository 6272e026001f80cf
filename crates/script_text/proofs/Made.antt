-- The two numbers of a body that is made stand around the first colon.
use Rattle.std.proofs.Common.{◌≡◌, ◌≢◌, ℕ, ◌+◌, ◌^◌, ◌<◌, List, ◌++◌, ◌∷◌, length, get_or, take, drop, arith, inl, inr, refl, ap, sym, ◌∙◌, rules}
use Rattle.std.specs.Prelude.{decimal}
use Rattle.std.specs.Str.Parse.{AllDigits, digits_value}
use Rattle.std.proofs.lemmas.Bool.{cases_lt}
use Rattle.std.proofs.lemmas.Fmt.{decimal_is_IsNumeral}
use Rattle.std.proofs.lemmas.List.{get_or_append_left, length-append}
use Rattle.std.proofs.lemmas.Str.Parse.{not_in_digits, IsNumeralModel}
use Rattle.std.proofs.Math.Seq.{get_or-append_seam, take-append_seam, drop-append-add}
use Rattle.script_text.specs.Fields.{IsFirstColon}

-- the library's own words for digits
own : IsNumeralModel (AllDigits 10) (digits_value 10)
own = record { to = λ ds all. all; from = λ ds all. all; same = λ ds all. refl }

-- no digit is a colon
pub no_colon : (n : ℕ) → n < 2 ^ 64 → (k : ℕ) → k < length (decimal n) → get_or (decimal n) k 0 ≢ 58
no_colon n small k within = not_in_digits own (decimal n) 58 (decimal_is_IsNumeral n small).0.1 (search rules) k within

-- the first colon ends the first number
pub colon_stands : (word : List ℕ) (at count : ℕ) (tail : List ℕ) → count < 2 ^ 64 → IsFirstColon word at → word ≡ decimal count ++ 58 ∷ tail → at ≡ length (decimal count)
colon_stands word at count tail small first is =
    let stands : get_or (decimal count ++ 58 ∷ tail) (length (decimal count)) 0 ≡ 58 = get_or-append_seam (decimal count) 58 tail 0 in
    elim (cases_lt at (length (decimal count))) as (λ _. at ≡ length (decimal count)) [
      | inl below ↦ absurd (no_colon count small at below (sym (get_or_append_left (decimal count) (58 ∷ tail) 0 at below) ∙ sym (ap (λ w. get_or w at 0) is) ∙ first.colon))
      | inr above ↦ elim (cases_lt (length (decimal count)) at) as (λ _. at ≡ length (decimal count)) [
        | inl under ↦ absurd (first.none_before (length (decimal count)) under (ap (λ w. get_or w (length (decimal count)) 0) is ∙ stands))
        | inr over ↦ omega arith
      ]
    ]

pub count_before : (word : List ℕ) (at count : ℕ) (tail : List ℕ) → count < 2 ^ 64 → IsFirstColon word at → word ≡ decimal count ++ 58 ∷ tail → take at word ≡ decimal count
count_before word at count tail small first is =
    ap (λ n. take n word) (colon_stands word at count tail small first is) ∙ ap (take (length (decimal count))) is ∙ take-append_seam (decimal count) (58 ∷ tail)

pub tail_behind : (word : List ℕ) (at count : ℕ) (tail : List ℕ) → count < 2 ^ 64 → IsFirstColon word at → word ≡ decimal count ++ 58 ∷ tail → drop (at + 1) word ≡ tail
tail_behind word at count tail small first is =
    ap (λ n. drop (n + 1) word) (colon_stands word at count tail small first is) ∙ ap (drop (length (decimal count) + 1)) is ∙ drop-append-add (decimal count) (58 ∷ tail) 1

-- where there is no colon there are no two numbers
pub some_colon : (word : List ℕ) (count : ℕ) (tail : List ℕ) → ((k : ℕ) → k < length word → get_or word k 0 ≢ 58) → word ≡ decimal count ++ 58 ∷ tail → ⊥
some_colon word count tail none is =
    let long : length word ≡ length (decimal count) + (length tail + 1) = ap length is ∙ grind (arith, length-append {A = ℕ}) in
    none (length (decimal count)) (omega arith) (ap (λ w. get_or w (length (decimal count)) 0) is ∙ get_or-append_seam (decimal count) 58 tail 0)
