use Rattle.std.proofs.Common.{ap, arith, drop, length, length-drop, length-take, refl, ◌+◌, ◌-◌, ◌≤◌, ◌∙◌}
use Rattle.slot_cell.specs.declared.header.TheConstants.{HEADER_SIZE}
use Rattle.rock_writer.proofs.Pieces.{as_long, behind_room}
use Rattle.rock_writer.proofs.drafting.put_meta.Goals as goal

pub returns-clause-put : goal.returns-clause-put
returns-clause-put g c =
    let buffer = c.buffer_mut-buffer.result.now in
    let same = ap length c.buffer_mut-buffer.ensures.value in
    let wide : length c.args.url.now + 72 ≤ length buffer = omega (arith, c.requires.room, same) in
    let le : HEADER_SIZE ≤ length buffer = omega (arith, wide) in
    let few : c.write_meta.result ≤ length c.write_meta.new.out =
    omega (arith, wide, c.write_meta.ensures.length, c.write_meta.auto.out, length-take (length buffer - HEADER_SIZE) (drop HEADER_SIZE buffer), length-drop HEADER_SIZE buffer) in (
      _,
      refl,
      as_long HEADER_SIZE buffer c.write_meta.new.out le c.write_meta.auto.out ∙ same,
      behind_room HEADER_SIZE c.write_meta.result buffer c.write_meta.new.out _ le few ∙ c.write_meta.ensures.written,
    )
