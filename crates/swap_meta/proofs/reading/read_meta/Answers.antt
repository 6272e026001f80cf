use Rattle.swap_meta.proofs.Outcome.{only_found, one_fault, room_found}
use Rattle.swap_meta.proofs.reading.read_meta.Goals as goal

pub returns-clause-only : goal.returns-clause-only
returns-clause-only c = only_found c.args.bytes.now c.read.result c.read.ensures.found c.read.ensures.refused

pub returns-clause-fault : goal.returns-clause-fault
returns-clause-fault c = one_fault c.args.bytes.now c.read.result c.read.ensures.found c.read.ensures.refused

pub returns-clause-room : goal.returns-clause-room
returns-clause-room c = room_found c.args.bytes.now c.read.result c.read.ensures.found
