-- The word of a new version, without readers.
use Rattle.std.proofs.Common.{◌≡◌, ℕ, ◌^◌, ◌<◌, true, arith}
use Rattle.std.proofs.lemmas.Bool.Decides.{nat_tests}
use Rattle.lock_word.specs.Words.{IsWord, readers_of, epoch_of, version_of, mode_of, stage_of, doom_of, is_written, word_at, epoch_at}

pub readers_of-word_at : (version stage : ℕ) → readers_of (word_at version stage) ≡ 0
readers_of-word_at version stage = omega arith

pub epoch_of-word_at : (version stage : ℕ) → epoch_of (word_at version stage) ≡ epoch_at version stage
epoch_of-word_at version stage = omega arith

pub version_of-epoch_at : (version stage : ℕ) → stage < 7 → version_of (epoch_at version stage) ≡ version
version_of-epoch_at version stage below = omega arith

pub mode_of-epoch_at : (version stage : ℕ) → stage < 7 → mode_of (epoch_at version stage) ≡ stage
mode_of-epoch_at version stage below = omega arith

pub stage_of-epoch_at : (version stage : ℕ) → stage < 7 → stage_of (epoch_at version stage) ≡ stage
stage_of-epoch_at version stage below = omega arith

pub doom_of-epoch_at : (version stage : ℕ) → stage < 7 → doom_of (epoch_at version stage) ≡ 0
doom_of-epoch_at version stage below = omega arith

pub is_word-word_at : (version stage : ℕ) → version < 2 ^ 32 → stage < 7 → IsWord (word_at version stage)
is_word-word_at version stage fits below = record { fits = omega arith; mode = omega arith; stage = omega arith }

-- a greater version is a greater epoch
pub rises : (e version stage : ℕ) → version_of e < version → e < epoch_at version stage
rises e version stage above = omega arith

pub word_rises : (n version stage : ℕ) → version_of (epoch_of n) < version → epoch_of n < epoch_of (word_at version stage)
word_rises n version stage above = omega arith

-- a new version is being written
pub written-taken : (version : ℕ) → is_written (epoch_at version 1) ≡ true
written-taken version = let stage = stage_of-epoch_at version 1 (omega arith) in grind (arith, nat_tests)
