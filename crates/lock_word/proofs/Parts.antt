-- The parts of the numbers of words.
use Rattle.std.proofs.Common.{◌≡◌, ℕ, ◌+◌, ◌*◌, ◌^◌, ◌<◌, Bool, true, false, arith, ap, ◌∙◌, sym, refl, zero, suc}
use Rattle.lock_word.specs.declared.stage.Stage.{Stage}
use Rattle.lock_word.specs.declared.stage.Stage.TheVariants.{Empty, Taken, Appending, Closed, Halted, Freeing, Gone}
use Rattle.lock_word.specs.declared.epoch.Epoch.{Epoch}
use Rattle.lock_word.specs.declared.word.Word.{Word}
use Rattle.lock_word.specs.Words.{IsInRange, IsWord, stage_number, doom_number, epoch_number, word_number, readers_of, epoch_of, version_of, mode_of, stage_of, doom_of}

-- a number is its epoch and its readers
pub whole : (n : ℕ) → n ≡ 65536 * epoch_of n + readers_of n
whole n = omega arith

pub readers_below : (n : ℕ) → readers_of n < 65536
readers_below n = omega arith

pub same : (n m : ℕ) → epoch_of n ≡ epoch_of m → readers_of n ≡ readers_of m → n ≡ m
same n m e r = omega arith

pub stage_below : (s : Stage) → stage_number s < 7
stage_below Empty = omega arith
stage_below Taken = omega arith
stage_below Appending = omega arith
stage_below Closed = omega arith
stage_below Halted = omega arith
stage_below Freeing = omega arith
stage_below Gone = omega arith

pub doom_below : (b : Bool) → doom_number b < 2
doom_below false = omega arith
doom_below true = omega arith

pub readers_of-word_number : (w : Word) → w.readers < 2 ^ 16 → readers_of (word_number w) ≡ w.readers
readers_of-word_number w fits = omega arith

pub epoch_of-word_number : (w : Word) → w.readers < 2 ^ 16 → epoch_of (word_number w) ≡ epoch_number w.epoch
epoch_of-word_number w fits = omega arith

pub version_of-epoch_number : (e : Epoch) → version_of (epoch_number e) ≡ e.version
version_of-epoch_number e = omega (arith, stage_below e.stage, doom_below e.doom)

pub mode_of-epoch_number : (e : Epoch) → mode_of (epoch_number e) ≡ 8 * doom_number e.doom + stage_number e.stage
mode_of-epoch_number e = omega (arith, stage_below e.stage, doom_below e.doom)

pub stage_of-epoch_number : (e : Epoch) → stage_of (epoch_number e) ≡ stage_number e.stage
stage_of-epoch_number e = omega (arith, stage_below e.stage, doom_below e.doom)

pub doom_of-epoch_number : (e : Epoch) → doom_of (epoch_number e) ≡ doom_number e.doom
doom_of-epoch_number e = omega (arith, stage_below e.stage, doom_below e.doom)

-- a word's number is one
pub is_word : (w : Word) → IsInRange w → IsWord (word_number w)
is_word w fits =
    let s = stage_below w.epoch.stage in
    let d = doom_below w.epoch.doom in
    let v = fits.version in
    let r = fits.readers in
    record { fits = omega arith; mode = omega arith; stage = omega arith }

-- the stage and the doom of a number
stage_from : ℕ → Stage
stage_from zero = Empty
stage_from (suc zero) = Taken
stage_from (suc (suc zero)) = Appending
stage_from (suc (suc (suc zero))) = Closed
stage_from (suc (suc (suc (suc zero)))) = Halted
stage_from (suc (suc (suc (suc (suc zero))))) = Freeing
stage_from (suc (suc (suc (suc (suc (suc n)))))) = Gone

doom_from : ℕ → Bool
doom_from zero = false
doom_from (suc n) = true

stage_from-stage_number : (s : Stage) → stage_from (stage_number s) ≡ s
unfolding stage_from
stage_from-stage_number Empty = refl
stage_from-stage_number Taken = refl
stage_from-stage_number Appending = refl
stage_from-stage_number Closed = refl
stage_from-stage_number Halted = refl
stage_from-stage_number Freeing = refl
stage_from-stage_number Gone = refl

doom_from-doom_number : (b : Bool) → doom_from (doom_number b) ≡ b
unfolding doom_from
doom_from-doom_number false = refl
doom_from-doom_number true = refl

pub same_stage : (s t : Stage) → stage_number s ≡ stage_number t → s ≡ t
same_stage s t is = sym (stage_from-stage_number s) ∙ ap stage_from is ∙ stage_from-stage_number t

pub same_doom : (b c : Bool) → doom_number b ≡ doom_number c → b ≡ c
same_doom b c is = sym (doom_from-doom_number b) ∙ ap doom_from is ∙ doom_from-doom_number c

stage_number-stage_from : (n : ℕ) → n < 7 → stage_number (stage_from n) ≡ n
unfolding stage_from
stage_number-stage_from zero below = refl
stage_number-stage_from (suc zero) below = refl
stage_number-stage_from (suc (suc zero)) below = refl
stage_number-stage_from (suc (suc (suc zero))) below = refl
stage_number-stage_from (suc (suc (suc (suc zero)))) below = refl
stage_number-stage_from (suc (suc (suc (suc (suc zero))))) below = refl
stage_number-stage_from (suc (suc (suc (suc (suc (suc n)))))) below = omega arith

doom_number-doom_from : (n : ℕ) → n < 2 → doom_number (doom_from n) ≡ n
unfolding doom_from
doom_number-doom_from zero below = refl
doom_number-doom_from (suc n) below = omega arith

epoch : ℕ → Bool → Stage → Epoch
epoch version doom stage = record { version = version; doom = doom; stage = stage }

word : Epoch → ℕ → Word
word epoch readers = record { epoch = epoch; readers = readers }

same_fields : {v v' : ℕ} {d d' : Bool} {s s' : Stage} → v ≡ v' → d ≡ d' → s ≡ s' → epoch v d s ≡ epoch v' d' s'
same_fields p q r = cc

same_parts : {e e' : Epoch} {r r' : ℕ} → e ≡ e' → r ≡ r' → word e r ≡ word e' r'
same_parts p q = cc

-- the word of a number
word_from : ℕ → Word
word_from n = word (epoch (version_of (epoch_of n)) (doom_from (doom_of (epoch_of n))) (stage_from (stage_of (epoch_of n)))) (readers_of n)

word_number-word_from : (n : ℕ) → IsWord n → word_number (word_from n) ≡ n
unfolding epoch word word_from
word_number-word_from n is =
    let s = stage_number-stage_from (stage_of (epoch_of n)) is.stage in
    let d = doom_number-doom_from (doom_of (epoch_of n)) (omega arith) in
    let m = is.mode in
    omega arith

word_from-in_range : (n : ℕ) → IsWord n → IsInRange (word_from n)
unfolding epoch word word_from
word_from-in_range n is = let f = is.fits in record { version = omega arith; readers = omega arith }

-- each such number is that of a word
pub some_word : (n : ℕ) → IsWord n → (w : Word) × IsInRange w × (word_number w ≡ n)
some_word n is = (word_from n, word_from-in_range n is, word_number-word_from n is)

-- an epoch has a number of its own
pub same_epoch : (e f : Epoch) → epoch_number e ≡ epoch_number f → e ≡ f
unfolding epoch
same_epoch e f is =
    let s = stage_below e.stage in
    let t = stage_below f.stage in
    let b = doom_below e.doom in
    let c = doom_below f.doom in
    same_fields (omega arith) (same_doom e.doom f.doom (omega arith)) (same_stage e.stage f.stage (omega arith))

-- and so has a word
pub same_word : (w v : Word) → IsInRange w → IsInRange v → word_number w ≡ word_number v → w ≡ v
unfolding word
same_word w v a b is =
    let r = a.readers in
    let q = b.readers in
    same_parts (same_epoch w.epoch v.epoch (omega arith)) (omega arith)
