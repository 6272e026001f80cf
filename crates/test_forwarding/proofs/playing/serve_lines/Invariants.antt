use Rattle.std.specs.Prelude.{IsTrue}
use Rattle.test_forwarding_kit.specs.Shared.{shared_of}
use Rattle.store_serve.specs.Tabs.{IsFree}
use Rattle.test_forwarding_kit.specs.Standing.{IsReady}
use Rattle.test_forwarding.proofs.playing.serve_lines.Given as goal

abbrev pub invariant-loop-at : goal.invariant-loop-at
invariant-loop-at g l = IsReady g.C.Cell.tells g.C.Cell.state shared_of l.store l.pass × (IsTrue l.is_idle → IsFree l.pass 0)
