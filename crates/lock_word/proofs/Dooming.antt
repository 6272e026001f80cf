-- A word whose doom bit is set.
use Rattle.std.proofs.Common.{◌≡◌, ℕ, ◌+◌, ◌*◌, ◌/◌, ◌%◌, ◌≤◌, false, ◌==◌, ◌||◌, arith, ap}
use Rattle.std.proofs.lemmas.Bool.Decides.{nat_tests}
use Rattle.std.specs.Int.Bits.{bit_and, or_add_and}
use Rattle.std.proofs.lemmas.Nat.Bits.{and_pow}
use Rattle.lock_word.specs.Words.{IsWord, readers_of, epoch_of, version_of, mode_of, stage_of, doom_of, is_readable, is_written, is_idle, doomed}

-- the bit is added where it was not set
pub doomed_sum : (n : ℕ) → doomed n + 524288 * doom_of (epoch_of n) ≡ n + 524288
doomed_sum n =
    let sum = or_add_and n 524288 in
    let bit : bit_and n 524288 ≡ n / 524288 % 2 * 524288 = and_pow n 19 in
    omega arith

pub doomed-undoomed : (n : ℕ) → doom_of (epoch_of n) ≡ 0 → doomed n ≡ n + 524288
doomed-undoomed n is = omega (arith, doomed_sum n)

pub doomed-doomed : (n : ℕ) → doom_of (epoch_of n) ≡ 1 → doomed n ≡ n
doomed-doomed n is = omega (arith, doomed_sum n)

pub readers_of-doomed : (n : ℕ) → readers_of (doomed n) ≡ readers_of n
readers_of-doomed n = omega (arith, doomed_sum n)

pub stage_of-doomed : (n : ℕ) → stage_of (epoch_of (doomed n)) ≡ stage_of (epoch_of n)
stage_of-doomed n = omega (arith, doomed_sum n)

pub doom_of-doomed : (n : ℕ) → doom_of (epoch_of (doomed n)) ≡ 1
doom_of-doomed n = omega (arith, doomed_sum n)

pub version_of-doomed : (n : ℕ) → version_of (epoch_of (doomed n)) ≡ version_of (epoch_of n)
version_of-doomed n = omega (arith, doomed_sum n)

pub epoch_of-doomed : (n : ℕ) → epoch_of n ≤ epoch_of (doomed n)
epoch_of-doomed n = omega (arith, doomed_sum n)

pub mode_of-doomed : (n : ℕ) → doom_of (epoch_of n) ≡ 0 → mode_of (epoch_of (doomed n)) ≡ mode_of (epoch_of n) + 8
mode_of-doomed n is = omega (arith, doomed_sum n)

-- nobody reads it any more, and nobody may take it for an idle one
pub readable-doomed : (n : ℕ) → is_readable (epoch_of (doomed n)) ≡ false
readable-doomed n = let doom = doom_of-doomed n in grind (arith, nat_tests)

pub idle-doomed : (n : ℕ) → is_idle (doomed n) ≡ false
idle-doomed n = let doom = doom_of-doomed n in grind (arith, nat_tests)

-- whether it is being written stays the same
pub written-doomed : (n : ℕ) → is_written (epoch_of (doomed n)) ≡ is_written (epoch_of n)
written-doomed n = ap (λ (stage : ℕ). (stage == 1) || (stage == 2)) (stage_of-doomed n)

pub is_word-doomed : (n : ℕ) → IsWord n → IsWord (doomed n)
is_word-doomed n is =
    let sum = doomed_sum n in
    let f = is.fits in
    let m = is.mode in
    let s = is.stage in
    record { fits = omega arith; mode = omega arith; stage = omega arith }
