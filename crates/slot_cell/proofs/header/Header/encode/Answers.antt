use Rattle.std.proofs.Common.{◌≡◌, ◌≤◌, [], length, take, ap, sym, ◌∙◌, rules, arith}
use Rattle.std.proofs.lemmas.List.{take_all}
use Rattle.std.specs.Int.{w32, to_le_bytes, cast_unsigned}
use Rattle.std.specs.Prelude.{ℤ, FitsSigned}
use Rattle.std.proofs.lemmas.Int.{to_z-of_z}
use Rattle.slot_cell.specs.Header.{header_of, header_bytes, IsInRange}
use Rattle.slot_cell.proofs.Reading.{header_of-alone}
use Rattle.slot_cell.proofs.Writing.{one_more}
use Rattle.slot_cell.proofs.header.Header.encode.Goals as goal

pub returns-clause-written : goal.returns-clause-written
unfolding header_bytes
returns-clause-written c =
    let h = c.args.self.now in
    let nothing : take 0 c.args.out.now ≡ [] = search rules in
    let first_slot_fits : FitsSigned w32 h.first_slot = search rules in
    let next_slot_fits : FitsSigned w32 h.next_slot = search rules in
    let first_slot : c.to_le_bytes-6.result ≡ to_le_bytes w32 (cast_unsigned w32 h.first_slot) =
    c.to_le_bytes-6.ensures ∙ ap (λ (z : ℤ). to_le_bytes w32 (cast_unsigned w32 z)) (to_z-of_z w32 h.first_slot first_slot_fits) in
    let next_slot : c.to_le_bytes-7.result ≡ to_le_bytes w32 (cast_unsigned w32 h.next_slot) =
    c.to_le_bytes-7.ensures ∙ ap (λ (z : ℤ). to_le_bytes w32 (cast_unsigned w32 z)) (to_z-of_z w32 h.next_slot next_slot_fits) in
    let to8 = one_more c.put-at.new.out c.args.out.now c.put-at.result 0 c.put-at.ensures.front nothing c.to_le_bytes.ensures in
    let to16 = one_more _ _ _ _ c.put-at-2.ensures.front to8 c.to_le_bytes-2.ensures in
    let to24 = one_more _ _ _ _ c.put-at-3.ensures.front to16 c.to_le_bytes-3.ensures in
    let to28 = one_more _ _ _ _ c.put-at-4.ensures.front to24 c.to_le_bytes-4.ensures in
    let to32 = one_more _ _ _ _ c.put-at-5.ensures.front to28 c.to_le_bytes-5.ensures in
    let to36 = one_more _ _ _ _ c.put-at-6.ensures.front to32 first_slot in
    let to40 = one_more _ _ _ _ c.put.ensures.front to36 next_slot in
    let whole : length c.put.new.out ≤ c.put.result =
    omega (arith, c.put-at.ensures.end, c.put-at-2.ensures.end, c.put-at-3.ensures.end, c.put-at-4.ensures.end, c.put-at-5.ensures.end, c.put-at-6.ensures.end, c.put.ensures.end)
    in
    sym (take_all c.put.result c.put.new.out whole) ∙ to40

pub returns-clause-decoded : goal.returns-clause-decoded
returns-clause-decoded c =
    let h = c.args.self.now in
    let fits : IsInRange h = record {
      k0 = omega arith;
      k1 = omega arith;
      entry_size = omega arith;
      payload_size = omega arith;
      version = omega arith;
      first_slot = search rules;
      next_slot = search rules;
    } in
    ap header_of (returns-clause-written c) ∙ header_of-alone h fits
