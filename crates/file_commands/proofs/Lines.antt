-- How long the parts of a line are.
use Rattle.std.proofs.Common.{ℕ, ◌^◌, ◌<◌, ◌≤◌, length, length-append, arith}
use Rattle.std.specs.Prelude.{decimal}
use Rattle.std.proofs.lemmas.Fmt.{length-decimal-le}
use Rattle.file_commands.specs.Listing.{numbers}
use Rattle.file_commands.specs.Migrate.{migrated_line}
use Rattle.file_commands.specs.Summary.{front, back}

-- a number of 64 bits has at most 20 digits
pub short_decimal : (n : ℕ) → n < 2 ^ 64 → length (decimal n) ≤ 20
short_decimal n small = length-decimal-le 20 n (omega arith) (omega (arith, small)) small

pub short_numbers : (first version slots size : ℕ) → first < 2 ^ 64 → version < 2 ^ 64 → slots < 2 ^ 64 → size < 2 ^ 64 → length (numbers first version slots size) ≤ 90
short_numbers first version slots size a b c d = grind (arith, length-append, short_decimal first a, short_decimal version b, short_decimal slots c, short_decimal size d)

pub short_front : (slots kept used : ℕ) → slots < 2 ^ 64 → kept < 2 ^ 64 → used < 2 ^ 64 → length (front slots kept used) ≤ 100
short_front slots kept used a b c = grind (arith, length-append, short_decimal slots a, short_decimal kept b, short_decimal used c)

pub short_back : (free version : ℕ) → free < 2 ^ 64 → version < 2 ^ 64 → length (back free version) ≤ 100
short_back free version a b = grind (arith, length-append, short_decimal free a, short_decimal version b)

pub short_migrated : (slots : ℕ) → slots < 2 ^ 64 → length (migrated_line slots) ≤ 60
short_migrated slots a = grind (arith, length-append, short_decimal slots a)
