-- What the tests of a number tell of its parts.
use Rattle.std.proofs.Common.{◌≡◌, ℕ, ◌+◌, ◌*◌, ◌<◌, ◌⊎◌, true, false, arith}
use Rattle.std.proofs.lemmas.Bool.Decides.{nat_tests}
use Rattle.lock_word.specs.Words.{readers_of, epoch_of, mode_of, stage_of, doom_of, is_readable, is_written, is_idle, is_vacant, is_left_over}

-- the stage and the doom make the mode
pub mode_is : (e : ℕ) → mode_of e < 16 → mode_of e ≡ 8 * doom_of e + stage_of e
mode_is e below = omega arith

pub readers_of-idle : (n : ℕ) → is_idle n ≡ true → readers_of n ≡ 0
readers_of-idle n is = grind (arith, nat_tests)

pub readers_of-vacant : (n : ℕ) → is_vacant n ≡ true → readers_of n ≡ 0
readers_of-vacant n is = grind (arith, nat_tests)

pub readers_of-left_over : (n : ℕ) → is_left_over n ≡ true → readers_of n ≡ 0
readers_of-left_over n is = grind (arith, nat_tests)

pub mode_of-idle : (n : ℕ) → is_idle n ≡ true → mode_of (epoch_of n) ≡ 3
mode_of-idle n is = grind (arith, nat_tests)

pub stage_of-vacant : (n : ℕ) → is_vacant n ≡ true → (stage_of (epoch_of n) ≡ 0) ⊎ (stage_of (epoch_of n) ≡ 6)
stage_of-vacant n is = grind (arith, nat_tests)

pub stage_of-left_over : (n : ℕ) → is_left_over n ≡ true → (stage_of (epoch_of n) ≡ 4) ⊎ (mode_of (epoch_of n) ≡ 11)
stage_of-left_over n is = grind (arith, nat_tests)

pub mode_of-readable : (e : ℕ) → is_readable e ≡ true → (mode_of e ≡ 2) ⊎ (mode_of e ≡ 3)
mode_of-readable e is = grind (arith, nat_tests)

pub stage_of-readable : (e : ℕ) → is_readable e ≡ true → (stage_of e ≡ 2) ⊎ (stage_of e ≡ 3)
stage_of-readable e is = grind (arith, nat_tests)

pub doom_of-readable : (e : ℕ) → is_readable e ≡ true → doom_of e ≡ 0
doom_of-readable e is = grind (arith, nat_tests)

pub stage_of-written : (e : ℕ) → is_written e ≡ true → (stage_of e ≡ 1) ⊎ (stage_of e ≡ 2)
stage_of-written e is = grind (arith, nat_tests)

-- when they hold

pub idle_where : (n : ℕ) → mode_of (epoch_of n) ≡ 3 → readers_of n ≡ 0 → is_idle n ≡ true
idle_where n mode none = grind (arith, nat_tests)

pub vacant_where : (n : ℕ) → (stage_of (epoch_of n) ≡ 0) ⊎ (stage_of (epoch_of n) ≡ 6) → readers_of n ≡ 0 → is_vacant n ≡ true
vacant_where n stage none = grind (arith, nat_tests)

pub left_over_where : (n : ℕ) → (stage_of (epoch_of n) ≡ 4) ⊎ (mode_of (epoch_of n) ≡ 11) → readers_of n ≡ 0 → is_left_over n ≡ true
left_over_where n stage none = grind (arith, nat_tests)

pub readable_where : (e : ℕ) → (mode_of e ≡ 2) ⊎ (mode_of e ≡ 3) → is_readable e ≡ true
readable_where e mode = grind (arith, nat_tests)

pub written_where : (e : ℕ) → (stage_of e ≡ 1) ⊎ (stage_of e ≡ 2) → is_written e ≡ true
written_where e stage = grind (arith, nat_tests)

-- at most one of them holds

pub vacant-idle : (n : ℕ) → is_idle n ≡ true → is_vacant n ≡ false
vacant-idle n is = grind (arith, nat_tests)

pub left_over-idle : (n : ℕ) → is_idle n ≡ true → is_left_over n ≡ false
left_over-idle n is = grind (arith, nat_tests)

pub left_over-vacant : (n : ℕ) → is_vacant n ≡ true → is_left_over n ≡ false
left_over-vacant n is = grind (arith, nat_tests)

pub written-idle : (n : ℕ) → is_idle n ≡ true → is_written (epoch_of n) ≡ false
written-idle n is = grind (arith, nat_tests)

pub written-vacant : (n : ℕ) → is_vacant n ≡ true → is_written (epoch_of n) ≡ false
written-vacant n is = grind (arith, nat_tests)

pub written-left_over : (n : ℕ) → is_left_over n ≡ true → is_written (epoch_of n) ≡ false
written-left_over n is = grind (arith, nat_tests)
