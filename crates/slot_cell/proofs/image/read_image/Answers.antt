use Rattle.std.proofs.Common.{◌≡◌, ◌+◌, ◌-◌, ℕ, List, length, take, drop, ap, ◌∙◌, arith}
use Rattle.slot_cell.specs.declared.header.Header.{Header}
use Rattle.slot_cell.specs.Header.{header_of}
use Rattle.slot_cell.proofs.Reading.{header_of-alone}
use Rattle.slot_cell.proofs.SlotImage.{header_of-slot_image, take-slot_image}
use Rattle.slot_cell.proofs.image.read_image.Goals as goal

pub returns-clause-built : goal.returns-clause-built
returns-clause-built c h payload fits size sane built =
    let slot = length c.args.bytes.now in
    let header = c.in_ok-header.header in
    let same : header ≡ h = c.in_ok-header.ensures.value ∙ ap header_of built ∙ header_of-slot_image h payload slot (header_of-alone h fits) in
    let sizes : header.payload_size ≡ h.payload_size = ap (λ (h : Header). h.payload_size) same in
    let n = 40 + header.payload_size - 40 in
    let long : length payload ≡ n = omega (arith, sizes) in
    (same, ap (λ (bytes : List ℕ). take n (drop 40 bytes)) built ∙ take-slot_image h payload slot n long)
