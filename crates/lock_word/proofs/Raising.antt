-- A stage that is raised.
use Rattle.std.proofs.Common.{◌≡◌, ℕ, ◌+◌, ◌-◌, ◌≤◌, ◌<◌, arith}
use Rattle.lock_word.specs.Words.{IsWord, readers_of, epoch_of, version_of, mode_of, stage_of, doom_of, raised}

pub readers_of-raised : (n by : ℕ) → readers_of (raised n by) ≡ readers_of n
readers_of-raised n by = omega arith

pub epoch_of-raised : (n by : ℕ) → epoch_of (raised n by) ≡ epoch_of n + by
epoch_of-raised n by = omega arith

pub stage_of-raised : (n by : ℕ) → stage_of (epoch_of n) + by < 7 → stage_of (epoch_of (raised n by)) ≡ stage_of (epoch_of n) + by
stage_of-raised n by room = omega arith

pub stage_of-raised_to : (n to : ℕ) → stage_of (epoch_of n) ≤ to → to < 7 → stage_of (epoch_of (raised n (to - stage_of (epoch_of n)))) ≡ to
stage_of-raised_to n to above below = omega arith

pub doom_of-raised : (n by : ℕ) → stage_of (epoch_of n) + by < 7 → doom_of (epoch_of (raised n by)) ≡ doom_of (epoch_of n)
doom_of-raised n by room = omega arith

pub mode_of-raised : (n by : ℕ) → stage_of (epoch_of n) + by < 7 → mode_of (epoch_of (raised n by)) ≡ mode_of (epoch_of n) + by
mode_of-raised n by room = omega arith

pub version_of-raised : (n by : ℕ) → stage_of (epoch_of n) + by < 7 → version_of (epoch_of (raised n by)) ≡ version_of (epoch_of n)
version_of-raised n by room = omega arith

pub is_word-raised : (n by : ℕ) → IsWord n → stage_of (epoch_of n) + by < 7 → IsWord (raised n by)
is_word-raised n by is room = record { fits = let f = is.fits in omega arith; mode = let m = is.mode in omega arith; stage = omega arith }
