-- The parts of an answer, read back from their texts.
use Rattle.std.proofs.Common.{◌≡◌, ◌==◌, ℕ, ◌+◌, ◌<◌, ◌^◌, Bool, true, false, cond, List, [], ◌∷◌, ◌++◌, codes, decimal, Ok, Err, refl, ap, ◌∙◌, arith, append_assoc, ne_eqb, ◌≤◌}
use Rattle.std.specs.Prelude.{Result}
use Rattle.std.specs.Str.Parse.{digits_value}
use Rattle.std.proofs.lemmas.Bool.Decides.{nat_tests}
use Rattle.std.proofs.lemmas.Fmt.{decimal_is_IsNumeral, decimal_digit}
use Rattle.std.proofs.lemmas.List.Elements.{All-nil, All-cons, All-append, All-weaker}
use Rattle.hex.specs.Hex.{IsBytes, decode_of}
use Rattle.hex.specs.declared.error.FromHexError.{FromHexError}
use Rattle.hex.proofs.HexLemmas.{decode_of-encode_lower}
use Rattle.lock_word.specs.Words.{IsInRange, stage_number}
use Rattle.lock_word.specs.declared.epoch.Epoch.{Epoch}
use Rattle.lock_word.specs.declared.stage.Stage.{Stage}
use Rattle.lock_word.specs.declared.stage.Stage.TheVariants as stage
use Rattle.lock_word.specs.declared.word.Word.{Word}
use Rattle.lock_word.proofs.Parts.{stage_below}
use Rattle.answer_text.specs.Parts.{doom_text, epoch_text, word_text, key_text, bytes_text}
use Rattle.answer_text.specs.Ranges.{IsEpoch}
use Rattle.answer_text.proofs.Dark.{AreDigits, IsEpochByte, number_digits, stage_digits, epoch_bytes}
use Rattle.answer_text.proofs.Cutting.{Lacks, pieces, cut_at, not_cut}

abbrev pub number_of : List ℕ → ℕ
number_of text = digits_value 10 text

pub number_back : (n : ℕ) → n < 2 ^ 64 → number_of (decimal n) ≡ n
number_back n fits = (decimal_is_IsNumeral n fits).1

abbrev pub stage_at : ℕ → Stage
stage_at digit = cond (digit == 48) stage.Empty (cond (digit == 49) stage.Taken (cond (digit == 50) stage.Appending (cond (digit == 51) stage.Closed (cond (digit == 52) stage.Halted (cond (digit == 53) stage.Freeing stage.Gone)))))

stage_back : (s : Stage) → stage_at (48 + stage_number s) ≡ s
stage_back stage.Empty = refl
stage_back stage.Taken = refl
stage_back stage.Appending = refl
stage_back stage.Closed = refl
stage_back stage.Halted = refl
stage_back stage.Freeing = refl
stage_back stage.Gone = refl

-- stage and doom, behind a version
abbrev pub epoch_with : ℕ → List ℕ → Epoch
epoch_with version [] = record { version = version; doom = false; stage = stage.Empty }
epoch_with version (digit ∷ []) = record { version = version; doom = false; stage = stage_at digit }
epoch_with version (digit ∷ d ∷ rest) = record { version = version; doom = true; stage = stage_at digit }

abbrev pub epoch_in : List (List ℕ) → Epoch
epoch_in [] = epoch_with 0 []
epoch_in (version ∷ []) = epoch_with (number_of version) []
epoch_in (version ∷ mode ∷ rest) = epoch_with (number_of version) mode

abbrev pub epoch_of : List ℕ → Epoch
epoch_of text = epoch_in (pieces 46 text)

mode_back : (version : ℕ) (s : Stage) (doom : Bool) → epoch_with version ((48 + stage_number s) ∷ doom_text doom) ≡ record { version = version; doom = doom; stage = s }
mode_back version s true = ap (λ (t : Stage). record { version = version; doom = true; stage = t }) (stage_back s)
mode_back version s false = ap (λ (t : Stage). record { version = version; doom = false; stage = t }) (stage_back s)

digits_lack : (c : ℕ) → c < 48 → (text : List ℕ) → AreDigits text → Lacks c text
digits_lack c low text digits = All-weaker (λ b. 48 ≤ b) (λ b. (b == c) ≡ false) (λ b high. grind (arith, nat_tests)) text digits

doom_lacks : (doom : Bool) → Lacks 46 (doom_text doom)
doom_lacks true = All-cons (λ b. (b == 46) ≡ false) 100 [] refl (All-nil (λ b. (b == 46) ≡ false))
doom_lacks false = All-nil (λ b. (b == 46) ≡ false)

epoch_pieces : (e : Epoch) → IsEpoch e → pieces 46 (epoch_text e) ≡ decimal e.version ∷ (decimal (stage_number e.stage) ++ doom_text e.doom) ∷ []
epoch_pieces e fits =
    let version = decimal e.version in
    let stage = decimal (stage_number e.stage) in
    let doom = doom_text e.doom in
    let joined : epoch_text e ≡ version ++ 46 ∷ (stage ++ doom) = append_assoc (version ++ codes ".") stage doom ∙ append_assoc version (codes ".") (stage ++ doom) in
    let front = digits_lack 46 (omega arith) version (number_digits e.version (omega (arith, fits))) in
    let back = All-append (λ b. (b == 46) ≡ false) stage doom (digits_lack 46 (omega arith) stage (stage_digits e.stage)) (doom_lacks e.doom) in
    ap (pieces 46) joined ∙ cut_at 46 version (stage ++ doom) front ∙ ap (λ ps. version ∷ ps) (not_cut 46 (stage ++ doom) back)

pub epoch_back : (e : Epoch) → IsEpoch e → epoch_of (epoch_text e) ≡ e
epoch_back e fits =
    let low = stage_below e.stage in
    let digit = decimal_digit (stage_number e.stage) (omega (arith, low)) in
    ap epoch_in (epoch_pieces e fits)
    ∙ ap (λ v. epoch_with v (decimal (stage_number e.stage) ++ doom_text e.doom)) (number_back e.version (omega (arith, fits)))
    ∙ ap (λ ds. epoch_with e.version (ds ++ doom_text e.doom)) digit
    ∙ mode_back e.version e.stage e.doom

abbrev pub word_in : List (List ℕ) → Word
word_in [] = record { epoch = epoch_of []; readers = 0 }
word_in (epoch ∷ []) = record { epoch = epoch_of epoch; readers = 0 }
word_in (epoch ∷ readers ∷ rest) = record { epoch = epoch_of epoch; readers = number_of readers }

abbrev pub word_of : List ℕ → Word
word_of text = word_in (pieces 47 text)

no_slash : (b : ℕ) → IsEpochByte b → (b == 47) ≡ false
no_slash b is = ne_eqb b 47 is.1

word_pieces : (w : Word) → IsInRange w → pieces 47 (word_text w) ≡ epoch_text w.epoch ∷ decimal w.readers ∷ []
word_pieces w fits =
    let epoch = epoch_text w.epoch in
    let readers = decimal w.readers in
    let front = All-weaker IsEpochByte (λ b. (b == 47) ≡ false) no_slash epoch (epoch_bytes w.epoch fits.version) in
    let back = digits_lack 47 (omega arith) readers (number_digits w.readers (omega (arith, fits.readers))) in
    ap (pieces 47) (append_assoc epoch (codes "/") readers) ∙ cut_at 47 epoch readers front ∙ ap (λ ps. epoch ∷ ps) (not_cut 47 readers back)

pub word_back : (w : Word) → IsInRange w → word_of (word_text w) ≡ w
word_back w fits =
    ap word_in (word_pieces w fits)
    ∙ ap (λ (e : Epoch). record { epoch = e; readers = number_of (decimal w.readers) }) (epoch_back w.epoch fits.version)
    ∙ ap (λ n. record { epoch = w.epoch; readers = n }) (number_back w.readers (omega (arith, fits.readers)))

abbrev pub bytes_in : Result (List ℕ) FromHexError → List ℕ
bytes_in (Ok bytes) = bytes
bytes_in (Err fault) = []

-- a dash is no hexadecimal, and reads as no bytes
abbrev pub bytes_of : List ℕ → List ℕ
bytes_of text = bytes_in (decode_of text)

pub key_back : (key : List ℕ) → IsBytes key → bytes_of (key_text key) ≡ key
key_back key are = ap bytes_in (decode_of-encode_lower key are)

pub bytes_back : (bytes : List ℕ) → IsBytes bytes → bytes_of (bytes_text bytes) ≡ bytes
bytes_back [] are = refl
bytes_back (b ∷ bytes) are = ap bytes_in (decode_of-encode_lower (b ∷ bytes) are)
