use Rattle.slot_cell.proofs.Reading.{header_of-alone}
use Rattle.slot_cell.proofs.SlotImage.{header_of-slot_image, payload_of-slot_image}
use Rattle.slot_cell.proofs.laws.images_are_read_as_built.Goals as goal

pub returns-clause-header : goal.returns-clause-header
returns-clause-header c h payload slot fits = header_of-slot_image h payload slot (header_of-alone h fits)

pub returns-clause-payload : goal.returns-clause-payload
returns-clause-payload c h payload slot fits size = payload_of-slot_image h payload slot (header_of-alone h fits) size
