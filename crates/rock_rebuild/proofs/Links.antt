-- The number that a header says of the next slot.
use Rattle.std.proofs.Common.{◌≡◌, zero, suc, pos, negsuc, ℤ, ◌≤ℤ◌, of_z, refl, subst}
use Rattle.std.specs.Int.{w32}
use lib.Dec.{T, is_le}
use Prim.Native.Nat.compare

-- a link that is not -1 is the number of a slot
pub goes : (z : ℤ) → (z ≡ negsuc 0 → ⊥) → negsuc 0 ≤ℤ z → z ≡ pos (of_z w32 z)
goes (pos n) not from = refl
goes (negsuc zero) not from = absurd (not refl)
goes (negsuc (suc n)) not from = absurd (subst (λ o. T (is_le o)) (compare.suc-zero n) from.le)
