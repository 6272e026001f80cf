use Rattle.std.proofs.lemmas.Result.{on_ok_weaker}
use Rattle.rock_disk.proofs.Crashes.{image_when_synced}
use Rattle.rock_disk.proofs.laws.write_then_sync.Goals as goal

pub returns-clause-crash : goal.returns-clause-crash
returns-clause-crash g c = on_ok_weaker c.sync.result (λ synced t image crash. image_when_synced (g.S.C.Cell.state c.sync.new.cell) (g.S.C.Cell.state c.write.new.cell) c.args.bytes.now image (synced t) (c.in_ok-write.ensures.written t) crash) c.sync.ensures.settled
