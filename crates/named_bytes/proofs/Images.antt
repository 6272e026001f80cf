-- The bytes of slots that are told by names.
use Rattle.std.proofs.Common.{◌≡◌, ℕ, zero, suc, ◌+◌, ◌<◌, List, [], ◌∷◌, length, replicate, refl, sym, ap, ◌∙◌, subst, arith, All}
use Rattle.std.specs.Prelude.{drop, slice_index, take}
use Rattle.std.proofs.lemmas.List.Elements.{All-drop, All-head, All-nil, All-tail, All-take, All-cons}
use Rattle.slot_cell.specs.Header.{header_of}
use Rattle.rebuild_model.specs.declared.image.FileImage.{FileImage}
use Rattle.rebuild_model.specs.Image.{IsSaneAt, image_at}
use Rattle.crash_entries.specs.Parts.{Offers}
use Rattle.named_rebuild.specs.declared.contents.FirstContent.{FirstContent}
use Rattle.named_rebuild.specs.Contents.{content_at}
use Rattle.named_bytes.specs.Bytes.{bytes_in, images_from}

module _ (file : FileImage) (o : Offers) where
  pub many_images : (from : ℕ) (xs : List FirstContent) → length (images_from file o from xs) ≡ length xs
  many_images from [] = refl
  many_images from (x ∷ xs) = let r = many_images (from + 1) xs in omega arith

  later_image : (from i : ℕ) (xs : List FirstContent) → i < length xs → image_at (images_from file o from xs) i ≡ bytes_in file o (from + i) (content_at xs i)
  later_image from i [] lt = absurd (omega arith)
  later_image from zero (x ∷ xs) lt = ap (λ (s : ℕ). bytes_in file o s x) (let e : from ≡ from + 0 = omega arith in e)
  later_image from (suc i) (x ∷ xs) lt = later_image (from + 1) i xs (omega arith) ∙ ap (λ (s : ℕ). bytes_in file o s (content_at xs i)) (let e : (from + 1) + i ≡ from + suc i = omega arith in e)

  pub image_is : (xs : List FirstContent) (i : ℕ) → i < length xs → image_at (images_from file o 0 xs) i ≡ bytes_in file o i (content_at xs i)
  image_is xs i lt = later_image 0 i xs lt ∙ ap (λ (s : ℕ). bytes_in file o s (content_at xs i)) (let e : 0 + i ≡ i = omega arith in e)

abbrev AreZeros : List ℕ → Type 0
AreZeros bytes = All (λ b. b ≡ 0) bytes

zero_at : (bytes : List ℕ) → AreZeros bytes → (i : ℕ) → slice_index bytes i ≡ 0
zero_at [] zeros i = refl
zero_at (b ∷ bytes) zeros zero = All-head (λ b. b ≡ 0) b bytes zeros
zero_at (b ∷ bytes) zeros (suc i) = zero_at bytes (All-tail (λ b. b ≡ 0) b bytes zeros) i

zeros : (n : ℕ) → AreZeros (replicate n 0)
zeros zero = All-nil (λ b. b ≡ 0)
zeros (suc n) = All-cons (λ b. b ≡ 0) 0 (replicate n 0) refl (zeros n)

-- the version of a header of zeros is 0
no_version : (image : List ℕ) → AreZeros image → (header_of image).version ≡ 0
unfolding header_of
no_version image zeros =
    let at = zero_at (take 4 (drop 28 image)) (All-take (λ b. b ≡ 0) 4 (drop 28 image) (All-drop (λ b. b ≡ 0) 28 image zeros)) in
    omega (arith, at 0, at 1, at 2, at 3)

-- a slot of zeros is not sane
pub blank_not_sane : (slot n : ℕ) (images : List (List ℕ)) (j : ℕ) → image_at images j ≡ replicate n 0 → ¬ IsSaneAt slot images j
blank_not_sane slot n images j is h = let some = h.sane.version_from in let none = no_version (image_at images j) (subst AreZeros (sym is) (zeros n)) in omega (arith, some, none)
