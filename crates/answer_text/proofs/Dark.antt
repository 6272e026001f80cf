-- No word of a line has a byte of a space, a line feed or below.
use Rattle.std.proofs.Common.{◌≡◌, ℕ, suc, ◌+◌, ◌/◌, ◌%◌, ◌^◌, ◌<◌, ◌≤◌, Bool, true, false, ◌&&◌, ltb, List, [], ◌∷◌, ◌++◌, All, codes, decimal, Some, refl, arith, slice_index}
use Rattle.std.proofs.lemmas.Bool.{and_parts, ltb-true}
use Rattle.std.proofs.lemmas.Bool.Decides.{nat_tests}
use Rattle.std.proofs.lemmas.Fmt.{decimal_by_steps}
use Rattle.std.proofs.lemmas.List.Elements.{All-nil, All-cons, All-append, All-weaker}
use Rattle.hex.specs.Hex.{IsBytes, encode_with, encode_lower, lower_digits, hex_digit_value}
use Rattle.hex.proofs.HexLemmas.{IsDigits-lower_digits}
use Rattle.lock_word.specs.Words.{IsInRange, stage_number}
use Rattle.lock_word.specs.declared.epoch.Epoch.{Epoch}
use Rattle.lock_word.specs.declared.stage.Stage.{Stage}
use Rattle.lock_word.specs.declared.word.Word.{Word}
use Rattle.lock_word.proofs.Parts.{stage_below}
use Rattle.answer_text.specs.Parts.{doom_text, epoch_text, word_text, bytes_text}
use Rattle.answer_text.specs.Ranges.{IsEpoch}

abbrev pub IsDark : List ℕ → Type 0
IsDark text = All (λ b. 32 < b) text

-- a test of a text that computes
abbrev pub is_dark : List ℕ → Bool
is_dark [] = true
is_dark (b ∷ text) = ltb 32 b && is_dark text

pub dark_by_test : (text : List ℕ) → is_dark text ≡ true → IsDark text
dark_by_test [] test = All-nil (λ b. 32 < b)
dark_by_test (b ∷ text) test =
    let parts = and_parts (ltb 32 b) (is_dark text) test in
    All-cons (λ b. 32 < b) b text (ltb-true 32 b parts.0) (dark_by_test text parts.1)

-- digits, which are above dots and slashes too
abbrev pub AreDigits : List ℕ → Type 0
AreDigits text = All (λ b. 48 ≤ b) text

pub number_digits : (n : ℕ) → n < 2 ^ 64 → AreDigits (decimal n)
number_digits n fits = decimal_by_steps (λ m text. AreDigits text)
    (λ m small. All-cons (λ b. 48 ≤ b) (48 + m) [] (omega arith) (All-nil (λ b. 48 ≤ b)))
    (λ m text large digits. All-append (λ b. 48 ≤ b) text ((48 + m % 10) ∷ []) digits (All-cons (λ b. 48 ≤ b) (48 + m % 10) [] (omega arith) (All-nil (λ b. 48 ≤ b))))
    n fits

digits_are_dark : (text : List ℕ) → AreDigits text → IsDark text
digits_are_dark text digits = All-weaker (λ b. 48 ≤ b) (λ b. 32 < b) (λ b high. omega arith) text digits

pub number_dark : (n : ℕ) → n < 2 ^ 64 → IsDark (decimal n)
number_dark n fits = digits_are_dark (decimal n) (number_digits n fits)

pub stage_digits : (s : Stage) → AreDigits (decimal (stage_number s))
stage_digits s = let low = stage_below s in number_digits (stage_number s) (omega (arith, low))

-- every byte of an epoch is a digit, a dot or a `d`
abbrev pub IsEpochByte : ℕ → Type 0
IsEpochByte b = (46 ≤ b) × (b ≡ 47 → ⊥)

digits_in_epochs : (text : List ℕ) → AreDigits text → All IsEpochByte text
digits_in_epochs text digits = All-weaker (λ b. 48 ≤ b) IsEpochByte (λ b high. (omega arith, λ is. omega arith)) text digits

dot_in_epochs : All IsEpochByte (codes ".")
dot_in_epochs = All-cons IsEpochByte 46 [] (omega arith, λ is. omega arith) (All-nil IsEpochByte)

doom_in_epochs : (doom : Bool) → All IsEpochByte (doom_text doom)
doom_in_epochs true = All-cons IsEpochByte 100 [] (omega arith, λ is. omega arith) (All-nil IsEpochByte)
doom_in_epochs false = All-nil IsEpochByte

pub epoch_bytes : (e : Epoch) → IsEpoch e → All IsEpochByte (epoch_text e)
epoch_bytes e fits =
    let version = decimal e.version in
    let stage = decimal (stage_number e.stage) in
    let first = digits_in_epochs version (number_digits e.version (omega (arith, fits))) in
    let dotted = All-append IsEpochByte version (codes ".") first dot_in_epochs in
    let staged = All-append IsEpochByte (version ++ codes ".") stage dotted (digits_in_epochs stage (stage_digits e.stage)) in
    All-append IsEpochByte (version ++ codes "." ++ stage) (doom_text e.doom) staged (doom_in_epochs e.doom)

pub epoch_dark : (e : Epoch) → IsEpoch e → IsDark (epoch_text e)
epoch_dark e fits = All-weaker IsEpochByte (λ b. 32 < b) (λ b is. omega (arith, is.0)) (epoch_text e) (epoch_bytes e fits)

pub word_dark : (w : Word) → IsInRange w → IsDark (word_text w)
word_dark w fits =
    let epoch = epoch_text w.epoch in
    let slashed = All-append (λ b. 32 < b) epoch (codes "/") (epoch_dark w.epoch fits.version) (dark_by_test (codes "/") refl) in
    All-append (λ b. 32 < b) (epoch ++ codes "/") (decimal w.readers) slashed (number_dark w.readers (omega (arith, fits.readers)))

-- a byte that reads as a digit of hexadecimal
digit_dark : (c d : ℕ) → hex_digit_value c ≡ Some d → 32 < c
digit_dark c d reads = grind (arith, nat_tests)

pub key_dark : (bytes : List ℕ) → IsBytes bytes → IsDark (encode_lower bytes)
unfolding encode_with
key_dark [] are = All-nil (λ b. 32 < b)
key_dark (b ∷ bytes) are =
    let small : b < 256 = are 0 in
    let high = digit_dark (slice_index lower_digits (b / 16)) (b / 16) (IsDigits-lower_digits (b / 16) (omega arith)) in
    let low = digit_dark (slice_index lower_digits (b % 16)) (b % 16) (IsDigits-lower_digits (b % 16) (omega arith)) in
    All-cons (λ c. 32 < c) (slice_index lower_digits (b / 16)) (slice_index lower_digits (b % 16) ∷ encode_lower bytes) high
    (All-cons (λ c. 32 < c) (slice_index lower_digits (b % 16)) (encode_lower bytes) low (key_dark bytes (λ i. are (suc i))))

pub bytes_dark : (bytes : List ℕ) → IsBytes bytes → IsDark (bytes_text bytes)
bytes_dark [] are = dark_by_test (codes "-") refl
bytes_dark (b ∷ bytes) are = key_dark (b ∷ bytes) are
