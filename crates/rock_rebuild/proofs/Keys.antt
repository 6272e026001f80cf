-- The key of a slot, by its header.
use Rattle.std.proofs.Common.{◌≡◌, ℕ, List, ◌++◌, take, drop, refl, ap, sym, ◌∙◌, arith}
use Rattle.std.specs.Int.{w64, to_le_bytes, from_le_bytes}
use Rattle.std.proofs.lemmas.List.{take-take, drop-take}
use Rattle.slot_cell.specs.declared.header.Header.{Header}
use Rattle.slot_cell.specs.Header.{header_of, header_bytes}

-- the bytes of the first two fields
abbrev front : Header → List ℕ
front h = to_le_bytes w64 h.k0 ++ to_le_bytes w64 h.k1

-- they stand at the front of a header
front_of : (h : Header) → take 16 (header_bytes h) ≡ front h
unfolding header_bytes
front_of h = refl

-- slots whose headers have one key have it in front of their images
pub same_keys : (image other : List ℕ) (h g : Header) → header_bytes h ≡ take 40 image → header_bytes g ≡ take 40 other → h.k0 ≡ g.k0 → h.k1 ≡ g.k1 → take 16 image ≡ take 16 other
same_keys image other h g this that k0 k1 =
    let front_at : take 16 (take 40 image) ≡ take 16 image = take-take 16 40 image (omega arith) in
    let front_of_other : take 16 (take 40 other) ≡ take 16 other = take-take 16 40 other (omega arith) in
    sym front_at ∙ ap (take 16) (sym this) ∙ front_of h ∙ ap (λ k. to_le_bytes w64 k ++ to_le_bytes w64 h.k1) k0 ∙ ap (λ k. to_le_bytes w64 g.k0 ++ to_le_bytes w64 k) k1 ∙ sym (front_of g) ∙ ap (take 16) that ∙ front_of_other

-- and the other way round
pub keys_from : (image other : List ℕ) → take 16 image ≡ take 16 other → ((header_of image).k0 ≡ (header_of other).k0) × ((header_of image).k1 ≡ (header_of other).k1)
unfolding header_of
keys_from image other same =
    let half : take 8 image ≡ take 8 other = sym (take-take 8 16 image (omega arith)) ∙ ap (take 8) same ∙ take-take 8 16 other (omega arith) in
    let back : take 8 (drop 8 image) ≡ take 8 (drop 8 other) = sym (drop-take 8 8 image) ∙ ap (drop 8) same ∙ drop-take 8 8 other in
    (ap (from_le_bytes w64) half, ap (from_le_bytes w64) back)
