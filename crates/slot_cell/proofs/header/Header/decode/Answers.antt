use Rattle.std.proofs.Common.{◌≤◌, length, ap, ◌∙◌, rules, arith}
use Rattle.std.proofs.lemmas.Int.{to_z-of_z}
use Rattle.std.specs.Int.{w32, w64, from_le_bytes, cast_signed}
use Rattle.std.specs.Prelude.{FitsSigned}
use Rattle.slot_cell.specs.Header.{header_of, header_bytes}
use Rattle.slot_cell.proofs.Reading.{next_rest, read_at, same_header, header_bytes-header_of, header_of-header_bytes}
use Rattle.slot_cell.proofs.header.Header.decode.Goals as goal

pub returns-clause-value : goal.returns-clause-value
unfolding header_of
returns-clause-value c =
    let bytes = c.args.bytes.now in
    let r1 = c.in_ok-k0.ensures.cases.1 in
    let r2 = next_rest bytes _ _ 8 8 c.in_ok-k1.ensures.cases.1 r1 in
    let r3 = next_rest bytes _ _ 16 8 c.in_ok-entry_size.ensures.cases.1 r2 in
    let r4 = next_rest bytes _ _ 24 4 c.in_ok-payload_size.ensures.cases.1 r3 in
    let r5 = next_rest bytes _ _ 28 4 c.in_ok-version.ensures.cases.1 r4 in
    let r6 = next_rest bytes _ _ 32 4 c.in_ok-first_slot.ensures.cases.1 r5 in
    let first_fits : FitsSigned w32 c.cast_signed.result = search rules in
    let next_fits : FitsSigned w32 c.cast_signed-2.result = search rules in
    same_header
    (c.from_le_bytes.ensures ∙ ap (from_le_bytes w64) c.in_ok-k0.ensures.cases.0)
    (read_at (from_le_bytes w64) bytes _ _ 8 8 _ c.from_le_bytes-2.ensures c.in_ok-k1.ensures.cases.0 r1)
    (read_at (from_le_bytes w64) bytes _ _ 16 8 _ c.from_le_bytes-3.ensures c.in_ok-entry_size.ensures.cases.0 r2)
    (read_at (from_le_bytes w32) bytes _ _ 24 4 _ c.from_le_bytes-4.ensures c.in_ok-payload_size.ensures.cases.0 r3)
    (read_at (from_le_bytes w32) bytes _ _ 28 4 _ c.from_le_bytes-5.ensures c.in_ok-version.ensures.cases.0 r4)
    (to_z-of_z w32 _ first_fits ∙ c.cast_signed.ensures ∙ ap (cast_signed w32) (read_at (from_le_bytes w32) bytes _ _ 32 4 _ c.from_le_bytes-6.ensures c.in_ok-first_slot.ensures.cases.0 r5))
    (to_z-of_z w32 _ next_fits ∙ c.cast_signed-2.ensures ∙ ap (cast_signed w32) (read_at (from_le_bytes w32) bytes _ _ 36 4 _ c.from_le_bytes-7.ensures c.in_ok-next_slot.ensures.cases.0 r6))

pub returns-clause-spelled : goal.returns-clause-spelled
returns-clause-spelled c =
    let room : 40 ≤ length c.args.bytes.now =
    omega (arith, c.in_ok-k0.ensures.cases.2, c.in_ok-k1.ensures.cases.2, c.in_ok-entry_size.ensures.cases.2, c.in_ok-payload_size.ensures.cases.2, c.in_ok-version.ensures.cases.2, c.in_ok-first_slot.ensures.cases.2, c.in_ok-next_slot.ensures.cases.2)
    in
    ap header_bytes (returns-clause-value c) ∙ header_bytes-header_of c.args.bytes.now (λ i. omega (arith, c.type_inv.bytes i)) room

pub returns-clause-only : goal.returns-clause-only
returns-clause-only c h rest fits spelled = returns-clause-value c ∙ ap header_of spelled ∙ header_of-header_bytes h rest fits
