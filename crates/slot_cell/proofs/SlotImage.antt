-- The image of a slot is read back.
use Rattle.std.proofs.Common.{◌≡◌, ℕ, ◌-◌, List, ◌++◌, length, take, drop, replicate, refl, ap, ◌∙◌, append_assoc, sym}
use Rattle.std.proofs.lemmas.List.{take_at}
use Rattle.slot_cell.specs.declared.header.Header.{Header}
use Rattle.slot_cell.specs.Header.{header_of, header_bytes, payload_of, slot_image}

-- the header of bytes is the one in their first 40
header_of-front : (h : Header) (rest : List ℕ) → header_of (header_bytes h ++ rest) ≡ header_of (header_bytes h)
unfolding header_of header_bytes
header_of-front h rest = refl

behind_header : (h : Header) (rest : List ℕ) → drop 40 (header_bytes h ++ rest) ≡ rest
unfolding header_bytes
behind_header h rest = refl

-- the header that stands in front of bytes
pub header_in_front : (h : Header) (head rest : List ℕ) → head ≡ header_bytes h → header_of head ≡ h → header_of (head ++ rest) ≡ h
header_in_front h head rest spelled read =
    ap (λ (front : List ℕ). header_of (front ++ rest)) spelled ∙ header_of-front h rest ∙ ap header_of (sym spelled) ∙ read

-- as many bytes behind the header as the payload has
payload_behind : (h : Header) (head payload zeros : List ℕ) (n : ℕ) → head ≡ header_bytes h → length payload ≡ n → take n (drop 40 (head ++ (payload ++ zeros))) ≡ payload
payload_behind h head payload zeros n spelled size =
    ap (λ (front : List ℕ). take n (drop 40 (front ++ (payload ++ zeros)))) spelled
    ∙ ap (take n) (behind_header h (payload ++ zeros))
    ∙ take_at payload zeros n size

-- the payload that stands behind the header
pub payload_in_front : (h : Header) (head payload zeros : List ℕ) → head ≡ header_bytes h → header_of head ≡ h → length payload ≡ h.payload_size → payload_of (head ++ (payload ++ zeros)) ≡ payload
payload_in_front h head payload zeros spelled read size =
    payload_behind h head payload zeros _ spelled (size ∙ ap (λ (h : Header). h.payload_size) (sym (header_in_front h head (payload ++ zeros) spelled read)))

-- the image, with what stands behind the header in one part
image_parts : (h : Header) (payload : List ℕ) (slot : ℕ) → slot_image h payload slot ≡ header_bytes h ++ (payload ++ replicate (slot - 40 - length payload) 0)
image_parts h payload slot = append_assoc (header_bytes h) payload (replicate (slot - 40 - length payload) 0)

-- the header of an image
pub header_of-slot_image : (h : Header) (payload : List ℕ) (slot : ℕ) → header_of (header_bytes h) ≡ h → header_of (slot_image h payload slot) ≡ h
header_of-slot_image h payload slot read =
    ap header_of (image_parts h payload slot) ∙ header_in_front h (header_bytes h) (payload ++ replicate (slot - 40 - length payload) 0) refl read

-- the payload of an image, where its size is known
pub take-slot_image : (h : Header) (payload : List ℕ) (slot n : ℕ) → length payload ≡ n → take n (drop 40 (slot_image h payload slot)) ≡ payload
take-slot_image h payload slot n size =
    ap (λ (bytes : List ℕ). take n (drop 40 bytes)) (image_parts h payload slot)
    ∙ payload_behind h (header_bytes h) payload (replicate (slot - 40 - length payload) 0) n refl size

-- the payload of an image
pub payload_of-slot_image : (h : Header) (payload : List ℕ) (slot : ℕ) → header_of (header_bytes h) ≡ h → length payload ≡ h.payload_size → payload_of (slot_image h payload slot) ≡ payload
payload_of-slot_image h payload slot read size =
    ap payload_of (image_parts h payload slot) ∙ payload_in_front h (header_bytes h) payload (replicate (slot - 40 - length payload) 0) refl read size
