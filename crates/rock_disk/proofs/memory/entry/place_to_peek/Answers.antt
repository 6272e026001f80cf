use Rattle.rock_disk.proofs.Peeking.{small_again}
use Rattle.rock_disk.proofs.memory.entry.place_to_peek.Goals as goal

pub returns-in-Err-Small-clause-small : goal.returns-in-Err-Small-clause-small
returns-in-Err-Small-clause-small c bytes = small_again c.in-Err-Small.field-0 c.in-Err-Small.bytes bytes c.in-Err-Small.field-0-is (c.in-Err-Small.ensures.small bytes)
