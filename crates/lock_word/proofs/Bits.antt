-- The bits of a word, as the code puts them together and takes them apart.
use Rattle.std.proofs.Common.{◌≡◌, ◌≢◌, ℕ, ◌+◌, ◌-◌, ◌*◌, ◌/◌, ◌%◌, ◌^◌, ◌<◌, ◌≤◌, ◌==◌, ◌⊎◌, inl, inr, Bool, true, false, suc, zero, arith, ap, ◌∙◌, sym, refl}
use mir.Val.{bool_byte}
use Rattle.std.specs.Int.{bit_at, IsBitSet}
use Rattle.std.specs.Int.Bits.{bit_and, bit_or}
use Rattle.std.proofs.Math.Nat.{pow-suc, zero-mul}
use Rattle.std.proofs.lemmas.Nat.{or_shifted, and_mask, pow_pos}
use Rattle.std.proofs.lemmas.Nat.Bits.{and_high, and_pow, bit_at-suc, bit_at_lowest, bit_at_above, bit_at_cat_low, bit_at_cat_high, shr_and_one}
use Rattle.lock_word.specs.declared.stage.Stage.{Stage}
use Rattle.lock_word.specs.declared.word.Word.{Word}
use Rattle.lock_word.specs.Words.{IsInRange, IsWord, HasReservedBit, epoch_of, mode_of, stage_of, stage_number, doom_number, word_number}
use Rattle.lock_word.proofs.Parts.{stage_below, doom_below}

-- the lower bits b join the higher bits of a
placed : (a k b x y z : ℕ) → x ≡ a * 2 ^ k → y ≡ b → b < 2 ^ k → z ≡ a * 2 ^ k + b → bit_or x y ≡ z
placed a k b x y z p q below t = ap (λ (m : ℕ). bit_or m y) p ∙ ap (λ (m : ℕ). bit_or (a * 2 ^ k) m) q ∙ or_shifted a k b below ∙ sym t

doom_is : (b : Bool) → bool_byte b ≡ doom_number b
doom_is false = refl
doom_is true = refl

-- the version, the doom, the stage and the readers, each in its place
joined : (v d s r : ℕ) → v < 2 ^ 32 → d < 2 → s < 7 → r < 2 ^ 16 → bit_or (bit_or (bit_or (v * 4294967296 % 18446744073709551616) (d * 524288 % 18446744073709551616)) (s * 65536 % 18446744073709551616)) r ≡ 65536 * (65536 * v + 8 * d + s) + r
joined v d s r version doom stage readers =
    let x : ℕ = v * 4294967296 % 18446744073709551616 in
    let y : ℕ = d * 524288 % 18446744073709551616 in
    let z : ℕ = s * 65536 % 18446744073709551616 in
    let first : bit_or x y ≡ (v * 8192 + d) * 524288 = placed v 32 (d * 524288) x y ((v * 8192 + d) * 524288) (omega arith) (omega arith) (omega arith) (omega arith) in
    let second : bit_or (bit_or x y) z ≡ ((v * 8192 + d) * 8 + s) * 65536 = placed (v * 8192 + d) 19 (s * 65536) (bit_or x y) z (((v * 8192 + d) * 8 + s) * 65536) (first) (omega arith) (omega arith) (omega arith) in
    placed ((v * 8192 + d) * 8 + s) 16 r (bit_or (bit_or x y) z) r (65536 * (65536 * v + 8 * d + s) + r) (second) refl (omega arith) (omega arith)

-- the parts of a word joined are its number
pub packed : (w : Word) (v d s r : ℕ) → IsInRange w → v ≡ w.epoch.version → d ≡ bool_byte w.epoch.doom → s ≡ stage_number w.epoch.stage → r ≡ w.readers → bit_or (bit_or (bit_or (v * 4294967296 % 18446744073709551616) (d * 524288 % 18446744073709551616)) (s * 65536 % 18446744073709551616)) r ≡ word_number w
packed w v d s r fits version doom stage readers =
    let is = doom_is w.epoch.doom in
    let b = doom_below w.epoch.doom in
    let t = stage_below w.epoch.stage in
    let f = fits.version in
    let g = fits.readers in
    joined v d s r (omega arith) (omega arith) (omega arith) (omega arith) ∙ omega arith

-- the bits from 20 to 31
reserved : ℕ → ℕ
reserved n = n / 1048576 % 4096

and_reserved : (n : ℕ) → bit_and n 4293918720 ≡ reserved n * 1048576
unfolding reserved
and_reserved n = and_high n 12 20

-- a number that is not 0 has a bit
some_bit : (width m : ℕ) → m < 2 ^ width → 0 < m → (k : ℕ) × (k < width) × (bit_at m k ≡ 1)
some_bit zero m below above = absurd (omega arith)
some_bit (suc width) m below above =
    elim (odd_or_even m) [
      | inl odd ↦ (0, omega arith, bit_at_lowest m ∙ odd)
      | inr even ↦ later width m (some_bit width (m / 2) (omega (arith, pow-suc 2 width)) (omega arith))
    ]
  where
    odd_or_even : (m : ℕ) → (m % 2 ≡ 1) ⊎ (m % 2 ≡ 0)
    odd_or_even m = grind arith

    later : (width m : ℕ) → (k : ℕ) × (k < width) × (bit_at (m / 2) k ≡ 1) → (k : ℕ) × (k < suc width) × (bit_at m k ≡ 1)
    later width m (k, below, is) = (suc k, omega arith, bit_at-suc m k ∙ is)

-- bit k of the reserved bits is bit 20 + k of the number
bit_at-reserved : (n k : ℕ) → k < 12 → bit_at (reserved n) k ≡ bit_at n (20 + k)
unfolding reserved
bit_at-reserved n k below =
    let above : n / 1048576 ≡ n / 4294967296 * 2 ^ 12 + n / 1048576 % 4096 = omega arith in
    let all : n ≡ n / 1048576 * 2 ^ 20 + n % 1048576 = omega arith in
    let place : k ≡ 20 + k - 20 = omega arith in
    sym (bit_at_cat_low (n / 4294967296) 12 (n / 1048576 % 4096) k below)
    ∙ ap (λ (m : ℕ). bit_at m k) (sym above)
    ∙ ap (λ (i : ℕ). bit_at (n / 1048576) i) place
    ∙ sym (bit_at_cat_high (n / 1048576) 20 (n % 1048576) (20 + k) (omega arith) (omega arith))
    ∙ ap (λ (m : ℕ). bit_at m (20 + k)) (sym all)

is_set : (n i : ℕ) → bit_at n i ≡ 1 → IsBitSet n i
is_set n i one unset = let product = ap (λ (b : ℕ). b * 2 ^ i) one in let above = pow_pos i in omega (arith, and_pow n i)

is_unset : (n i : ℕ) → bit_at n i ≡ 0 → bit_and n (2 ^ i) ≡ 0
is_unset n i is = and_pow n i ∙ ap (λ (b : ℕ). b * 2 ^ i) is ∙ zero-mul (2 ^ i)

-- the code's mask finds the bits from 20 to 31
pub some_reserved : (n : ℕ) → bit_and n 4293918720 ≢ 0 → HasReservedBit n
unfolding reserved
some_reserved n is = from n (some_bit 12 (reserved n) (omega arith) (omega (arith, and_reserved n)))
  where
    from : (n : ℕ) → (k : ℕ) × (k < 12) × (bit_at (reserved n) k ≡ 1) → HasReservedBit n
    from n (k, below, is) = record { bit = 20 + k; from = omega arith; below = omega arith; set = is_set n (20 + k) (sym (bit_at-reserved n k below) ∙ is) }

pub none_reserved : (n : ℕ) → bit_and n 4293918720 ≡ 0 → HasReservedBit n → ⊥
unfolding reserved
none_reserved n is r =
    let from = r.from in
    let all : n ≡ n / 4294967296 * 2 ^ 32 + n % 4294967296 = omega arith in
    let low : n % 4294967296 < 2 ^ 20 = omega (arith, and_reserved n) in
    r.set (is_unset n r.bit (ap (λ (m : ℕ). bit_at m r.bit) all ∙ bit_at_cat_low (n / 4294967296) 32 (n % 4294967296) r.bit r.below ∙ bit_at_above (n % 4294967296) 20 r.bit low from))

pub reserved_is_none : (n : ℕ) → bit_and n 4293918720 ≢ 0 → IsWord n → ⊥
unfolding reserved
reserved_is_none n is w = let m = w.mode in is (omega (arith, and_reserved n))

pub mode_below : (n : ℕ) → bit_and n 4293918720 ≡ 0 → mode_of (epoch_of n) < 16
unfolding reserved
mode_below n is = omega (arith, and_reserved n)

pub mode_above : (n : ℕ) → HasReservedBit n → 16 ≤ mode_of (epoch_of n)
unfolding reserved
mode_above n r = grind (arith, and_reserved n, none_reserved n, r)

pub some_mode : (n : ℕ) → 16 ≤ mode_of (epoch_of n) → HasReservedBit n
unfolding reserved
some_mode n above = some_reserved n (λ unset. let below = mode_below n unset in omega arith)

-- what the code's masks take of a number
low_readers : (n : ℕ) → bit_and n 65535 ≡ n % 65536
low_readers n = and_mask n 16

low_stage : (n : ℕ) → bit_and (n / 65536) 7 ≡ n / 65536 % 8
low_stage n = and_mask (n / 65536) 3

-- a bit as a doom
doom_of_bit : (bit : ℕ) → bit < 2 → doom_number (bit == 1) ≡ bit
doom_of_bit zero below = refl
doom_of_bit (suc zero) below = refl
doom_of_bit (suc (suc bit)) below = absurd (omega arith)

low_doom : (n : ℕ) → doom_number (bit_and (n / 524288) 1 == 1) ≡ n / 524288 % 2
low_doom n = let bit : bit_and (n / 524288) 1 ≡ n / 524288 % 2 = shr_and_one n 19 in doom_of_bit (bit_and (n / 524288) 1) (omega arith) ∙ bit

pub stage_below_7 : (n : ℕ) (s : Stage) → stage_number s ≡ bit_and (n / 65536) 7 → stage_of (epoch_of n) < 7
stage_below_7 n s is = let below = stage_below s in let low = low_stage n in omega arith

-- the parts that the code takes are those of the number
pub unpacked : (n : ℕ) (s : Stage) → n < 2 ^ 64 → bit_and n 4293918720 ≡ 0 → stage_number s ≡ bit_and (n / 65536) 7 → 65536 * (65536 * (n / 4294967296) + 8 * doom_number (bit_and (n / 524288) 1 == 1) + stage_number s) + bit_and n 65535 ≡ n
unpacked n s fits unset is =
    let below = mode_below n unset in
    let r = low_readers n in
    let t = low_stage n in
    let d = low_doom n in
    omega arith
