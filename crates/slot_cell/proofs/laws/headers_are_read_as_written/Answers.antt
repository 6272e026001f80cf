use Rattle.slot_cell.proofs.Reading.{header_of-header_bytes, header_bytes-alone}
use Rattle.slot_cell.proofs.laws.headers_are_read_as_written.Goals as goal

pub returns-clause-read : goal.returns-clause-read
returns-clause-read c = header_of-header_bytes

pub returns-clause-written : goal.returns-clause-written
returns-clause-written c = header_bytes-alone
