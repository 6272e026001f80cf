-- The numbers that anchor words are in the shared table. Bits 0 to 15 hold the readers, 16 to 18 the stage, 19 the doom and
-- 32 to 63 the version, and bits 20 to 31 are 0. A word without its readers is the number of its epoch: those numbers are
-- ordered as the epochs are.
use Rattle.std.specs.Prelude.{ℕ, bit_or, ◌+◌, ◌-◌, ◌*◌, ◌/◌, ◌%◌, ◌^◌, ◌<◌, ◌≤◌, IsBitSet, Bool, true, false, ◌==◌, ◌||◌, ◌&&◌}
use Rattle.lock_word.specs.declared.stage.Stage.{Stage}
use Rattle.lock_word.specs.declared.stage.Stage.TheVariants.{Empty, Taken, Appending, Closed, Halted, Freeing, Gone}
use Rattle.lock_word.specs.declared.epoch.Epoch.{Epoch}
use Rattle.lock_word.specs.declared.word.Word.{Word}

abbrev pub stage_number : Stage → ℕ
stage_number Empty = 0
stage_number Taken = 1
stage_number Appending = 2
stage_number Closed = 3
stage_number Halted = 4
stage_number Freeing = 5
stage_number Gone = 6

abbrev pub doom_number : Bool → ℕ
doom_number false = 0
doom_number true = 1

abbrev pub epoch_number : Epoch → ℕ
epoch_number e = 65536 * e.version + 8 * doom_number e.doom + stage_number e.stage

abbrev pub word_number : Word → ℕ
word_number w = 65536 * epoch_number w.epoch + w.readers

-- the numbers of a word fit their places
pub record IsInRange (w : Word) : Type 0 where
  pub version : w.epoch.version < 2 ^ 32
  pub readers : w.readers < 2 ^ 16

-- The parts of a word's number n, and of an epoch's number e.

abbrev pub readers_of : ℕ → ℕ
readers_of n = n % 65536

abbrev pub epoch_of : ℕ → ℕ
epoch_of n = n / 65536

abbrev pub version_of : ℕ → ℕ
version_of e = e / 65536

-- the stage, and 8 more where the entry is doomed
abbrev pub mode_of : ℕ → ℕ
mode_of e = e % 65536

abbrev pub stage_of : ℕ → ℕ
stage_of e = e % 8

abbrev pub doom_of : ℕ → ℕ
doom_of e = e / 8 % 2

-- n is the number of a word: no bit from 20 to 31 is set, and the stage is one of the seven
pub record IsWord (n : ℕ) : Type 0 where
  pub fits : n < 18446744073709551616
  pub mode : mode_of (epoch_of n) < 16
  pub stage : stage_of (epoch_of n) < 7

-- a bit from 20 to 31 is set
pub record HasReservedBit (n : ℕ) : Type 0 where
  pub bit : ℕ
  pub from : 20 ≤ bit
  pub below : bit < 32
  pub set : IsBitSet n bit

-- What an epoch or a word allows.

-- Appending or Closed, and not doomed
abbrev pub is_readable : ℕ → Bool
is_readable e = (mode_of e == 2) || (mode_of e == 3)

-- Taken or Appending
abbrev pub is_written : ℕ → Bool
is_written e = (stage_of e == 1) || (stage_of e == 2)

-- Closed, not doomed, without readers
abbrev pub is_idle : ℕ → Bool
is_idle n = (readers_of n == 0) && (mode_of (epoch_of n) == 3)

-- Empty or Gone, without readers
abbrev pub is_vacant : ℕ → Bool
is_vacant n = (readers_of n == 0) && ((stage_of (epoch_of n) == 0) || (stage_of (epoch_of n) == 6))

-- Halted, or Closed and doomed, without readers: its last user frees it
abbrev pub is_left_over : ℕ → Bool
is_left_over n = (readers_of n == 0) && ((stage_of (epoch_of n) == 4) || (mode_of (epoch_of n) == 11))

-- What steps make of a word.

-- the epoch of this stage, not doomed, and the word of it without readers
abbrev pub epoch_at : ℕ → ℕ → ℕ
epoch_at version stage = 65536 * version + stage

abbrev pub word_at : ℕ → ℕ → ℕ
word_at version stage = 65536 * epoch_at version stage

-- with the doom bit set
abbrev pub doomed : ℕ → ℕ
doomed n = bit_or n 524288

-- with the stage raised by this much, where a stage is that far above it
abbrev pub raised : ℕ → ℕ → ℕ
raised n by = n + 65536 * by

-- an entry is freed: its word at FREEING
abbrev pub evicted : ℕ → ℕ
evicted n = raised n (5 - stage_of (epoch_of n))

-- the greatest version that may be drawn
abbrev pub version_limit : ℕ
version_limit = 4294901760
