-- One reader more or less.
use Rattle.std.proofs.Common.{◌≡◌, ℕ, ◌+◌, ◌-◌, ◌<◌, arith}
use Rattle.lock_word.specs.Words.{IsWord, readers_of, epoch_of}

pub readers_of-more : (n : ℕ) → readers_of n < 65535 → readers_of (n + 1) ≡ readers_of n + 1
readers_of-more n room = omega arith

pub epoch_of-more : (n : ℕ) → readers_of n < 65535 → epoch_of (n + 1) ≡ epoch_of n
epoch_of-more n room = omega arith

pub is_word-more : (n : ℕ) → IsWord n → readers_of n < 65535 → IsWord (n + 1)
is_word-more n is room = record { fits = let f = is.fits in omega arith; mode = let m = is.mode in omega arith; stage = let s = is.stage in omega arith }

pub readers_of-less : (n : ℕ) → 0 < readers_of n → readers_of (n - 1) + 1 ≡ readers_of n
readers_of-less n some = omega arith

pub epoch_of-less : (n : ℕ) → 0 < readers_of n → epoch_of (n - 1) ≡ epoch_of n
epoch_of-less n some = omega arith

pub is_word-less : (n : ℕ) → IsWord n → 0 < readers_of n → IsWord (n - 1)
is_word-less n is some = record { fits = let f = is.fits in omega arith; mode = let m = is.mode in omega arith; stage = let s = is.stage in omega arith }
