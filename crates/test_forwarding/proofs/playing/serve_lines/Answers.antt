use Rattle.test_forwarding_kit.specs.Shared.{shared_of}
use Rattle.test_forwarding_kit.proofs.Holding.{idle_still}
use Rattle.test_forwarding.proofs.playing.serve_lines.Goals.{then-line-eq1+in_ok-alone+in_ok-out+in_ok-is_idle, else-line-eq1}
use Rattle.test_forwarding.proofs.playing.serve_lines.Goals as goal

pub loop-at-preserved : goal.loop-at-preserved
loop-at-preserved g c = elim c.if-line-eq1.branch [
  | then-line-eq1+in_ok-alone+in_ok-out+in_ok-is_idle w ↦ idle_still g.C.Cell.tells g.C.Cell.state shared_of c.args.store.now w.pass-is w.is_idle-is w.serve_line.ensures.ready w.in_ok-is_idle.ensures.idle
  | else-line-eq1 w ↦ idle_still g.C.Cell.tells g.C.Cell.state shared_of c.args.store.now w.pass-is w.is_idle-is c.loop-at.invariant.0 c.loop-at.invariant.1
]
