-- Bytes have one whole length, or one thing is wrong with it.
use Rattle.std.proofs.Common.{◌≡◌, ℕ, suc, ◌+◌, ◌^◌, ◌<◌, ◌≤◌, List, ◌∷◌, ◌++◌, length, take, drop, refl, sym, ap, ◌∙◌, inl, inr, arith}
use Rattle.std.specs.Int.{w32, to_le_bytes, from_le_bytes}
use Rattle.std.proofs.lemmas.List.{take-append-drop, length-take}
use Rattle.std.proofs.lemmas.Nat.{from_le_bytes-to_le_bytes_4}
use Rattle.swap_meta.specs.declared.fault.MetaFault.{MetaFault}
use Rattle.swap_meta.specs.declared.fault.MetaFault.TheVariants.{BadMark, BadLength, NoKey, NoUrl, Repeated}
use Rattle.swap_meta.specs.Meta.{whole_length, Frames, FrameFails}

-- all of the bytes, with those behind the whole length
frame_parts : (bytes inside : List ℕ) (L : ℕ) → Frames bytes inside L → bytes ≡ 3 ∷ (to_le_bytes w32 L ++ (inside ++ drop L bytes))
frame_parts bytes inside L frames = sym (take-append-drop L bytes) ∙ ap (λ (front : List ℕ). front ++ drop L bytes) frames.spelled

-- the whole length is the one that is written, and counts five bytes besides the items
pub framed_length : (bytes inside : List ℕ) (L : ℕ) → Frames bytes inside L → (whole_length bytes ≡ L) × (length inside + 5 ≡ L)
framed_length bytes inside L frames =
    let coded : take 4 (drop 1 bytes) ≡ to_le_bytes w32 L = ap (λ (xs : List ℕ). take 4 (drop 1 xs)) (frame_parts bytes inside L frames) in
    let long : length (take L bytes) ≡ suc (suc (suc (suc (suc (length inside))))) = ap length frames.spelled in
    (ap (from_le_bytes w32) coded ∙ from_le_bytes-to_le_bytes_4 L frames.fits, omega (arith, long, length-take L bytes, frames.within))

-- bytes have one whole length
pub one_frame : (bytes a b : List ℕ) (L M : ℕ) → Frames bytes a L → Frames bytes b M → (L ≡ M) × (a ≡ b)
one_frame bytes a b L M p q =
    let lengths : L ≡ M = sym (framed_length bytes a L p).0 ∙ (framed_length bytes b M q).0 in
    let whole : 3 ∷ (to_le_bytes w32 L ++ a) ≡ 3 ∷ (to_le_bytes w32 M ++ b) = sym p.spelled ∙ ap (λ (n : ℕ). take n bytes) lengths ∙ q.spelled in
    (lengths, ap (λ (xs : List ℕ). drop 5 xs) whole)

-- where the mark and the whole length are right, nothing is wrong with them
pub frame_holds : (bytes inside : List ℕ) (L : ℕ) (fault : MetaFault) → Frames bytes inside L → FrameFails bytes fault → ⊥
frame_holds bytes inside L BadMark frames fails = fails (to_le_bytes w32 L ++ (inside ++ drop L bytes)) (frame_parts bytes inside L frames)
frame_holds bytes inside L BadLength frames fails =
    let sizes = framed_length bytes inside L frames in
    let five : 5 ≤ L = omega (arith, sizes.1) in
    let within = frames.within in
    let is = sizes.0 in
    elim fails.2 [
      | inl short ↦ omega arith
      | inr other ↦ elim other [ inl small ↦ omega arith | inr large ↦ omega arith ]
    ]
frame_holds bytes inside L NoKey frames fails = fails
frame_holds bytes inside L NoUrl frames fails = fails
frame_holds bytes inside L Repeated frames fails = fails

-- one thing is wrong with them
pub one_frame_fault : (bytes : List ℕ) (f g : MetaFault) → FrameFails bytes f → FrameFails bytes g → f ≡ g
one_frame_fault bytes BadMark BadMark p q = refl
one_frame_fault bytes BadMark BadLength p q = absurd (p q.0 q.1)
one_frame_fault bytes BadMark NoKey p q = absurd q
one_frame_fault bytes BadMark NoUrl p q = absurd q
one_frame_fault bytes BadMark Repeated p q = absurd q
one_frame_fault bytes BadLength BadMark p q = absurd (q p.0 p.1)
one_frame_fault bytes BadLength BadLength p q = refl
one_frame_fault bytes BadLength NoKey p q = absurd q
one_frame_fault bytes BadLength NoUrl p q = absurd q
one_frame_fault bytes BadLength Repeated p q = absurd q
one_frame_fault bytes NoKey g p q = absurd p
one_frame_fault bytes NoUrl g p q = absurd p
one_frame_fault bytes Repeated g p q = absurd p

-- the bytes of the items are as few as a length can say
pub framed_fits : (bytes inside : List ℕ) (L : ℕ) → Frames bytes inside L → length inside < 2 ^ 32
framed_fits bytes inside L frames = let sizes = framed_length bytes inside L frames in omega (arith, sizes.1, frames.fits)
