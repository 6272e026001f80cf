use Rattle.file_commands.proofs.HeaderWritten.{synced_adds}
use Rattle.file_commands.proofs.recording.write_header.Goals as goal

pub returns-clause-possible : goal.returns-clause-possible
returns-clause-possible g c t =
    synced_adds c.args.bytes.now (g.St.C.Cell.state c.args.header.now) (g.St.C.Cell.state c.write.new.cell) (g.St.C.Cell.state c.sync.new.cell) c.sync.result t
    (c.in_ok-write.ensures.written t) (c.in_ok-write.ensures.possible t) c.sync.ensures.settled c.sync.ensures.unchanged
