-- A number that is written with no sign and no leading zero is parsed.
use Rattle.std.proofs.Common.{◌≡◌, ℕ, ◌^◌, ◌<◌, List, Ok, Err, false, arith, ◌∙◌}
use Rattle.std.specs.Prelude.{Result, decimal}
use Rattle.std.specs.Str.{bytes_eq}
use Rattle.std.specs.Str.Parse.{ParsesUnsigned}
use Rattle.std.proofs.lemmas.Bool.{false≢true}
use Rattle.std.proofs.lemmas.Fmt.{parse-decimal}
use Rattle.std.proofs.lemmas.Slice.Eq.{bytes_eq-Decides}

ok_same : {E : Type 0} (r : Result ℕ E) (number n : ℕ) → r ≡ Ok number → r ≡ Ok n → number ≡ n
ok_same r number n e same = cc

ok_is_no_err : {E : Type 0} (r : Result ℕ E) (e : E) (n : ℕ) → r ≡ Err e → r ≡ Ok n → ⊥
ok_is_no_err r e n was same = cc

pub parsed_number : {E : Type 0} (word : List ℕ) (r : Result ℕ E) (number n : ℕ) → n < 2 ^ 64 → word ≡ decimal n
    → ParsesUnsigned 64 10 word r → r ≡ Ok number → number ≡ n
parsed_number word r number n fits spelled parsed is = ok_same r number n is (parse-decimal 64 n word r fits (omega arith) spelled parsed)

pub never_refused : {E : Type 0} (word : List ℕ) (r : Result ℕ E) (e : E) (n : ℕ) → n < 2 ^ 64 → word ≡ decimal n
    → ParsesUnsigned 64 10 word r → r ≡ Err e → ⊥
never_refused word r e n fits spelled parsed is = ok_is_no_err r e n is (parse-decimal 64 n word r fits (omega arith) spelled parsed)

-- equal texts are not found to differ
pub never_differ : (a b : List ℕ) → a ≡ b → false ≡ bytes_eq a b → ⊥
never_differ a b same differ = false≢true (differ ∙ (bytes_eq-Decides a b).1 same)
