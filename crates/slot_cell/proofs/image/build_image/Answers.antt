use Rattle.std.proofs.Common.{◌≡◌, length, ap, ◌∙◌}
use Rattle.slot_cell.proofs.SlotImage.{header_in_front, payload_in_front}
use Rattle.slot_cell.proofs.image.build_image.Goals as goal

pub returns-clause-header : goal.returns-clause-header
returns-clause-header c = header_in_front c.args.header.now c.encode.new.out _ c.encode.ensures.written c.encode.ensures.decoded

pub returns-clause-payload : goal.returns-clause-payload
returns-clause-payload c =
    let copied : c.copy_from_slice.new.self ≡ c.args.payload.now = c.copy_from_slice.ensures.after in
    payload_in_front c.args.header.now c.encode.new.out c.copy_from_slice.new.self _ c.encode.ensures.written c.encode.ensures.decoded (ap length copied ∙ c.requires.size) ∙ copied
