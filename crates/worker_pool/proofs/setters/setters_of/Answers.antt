use Rattle.std.proofs.Common.{◌+◌, ◌<◌, length, sym, ap, ◌∙◌, subst, arith}
use Rattle.std.proofs.Math.ListN.{length-set}
use Rattle.worker_pool.specs.Courses.{At}
use Rattle.worker_pool.proofs.Setting.{AreSetters, setters_next, setters_skip}
use Rattle.worker_pool.proofs.setters.setters_of.Goals as goal
use Rattle.worker_pool.proofs.setters.setters_of.Goals.{in-Mark, in_default}

pub bounds-setters-mark : goal.bounds-setters-mark
bounds-setters-mark c = (c.requires.set c.loop-line.line-index c.in-Mark.mark c.line-item.result (c.loop-line-test.true, sym c.line-item.is) c.in-Mark.is).0

pub loop-line-preserved : goal.loop-line-preserved
loop-line-preserved c =
    let was = c.loop-line.invariant in
    let at : At c.args.lines.now c.loop-line.line-index c.line-item.result = (c.loop-line-test.true, sym c.line-item.is) in
    elim c.match-line.branch [
      | in-Mark w ↦
          let below = (c.requires.set c.loop-line.line-index w.in-Mark.mark c.line-item.result at w.in-Mark.is).0 in
          let less : w.in-Mark.mark < length c.loop-line.setters = let long = was.1 in omega arith in (
            subst (λ s. AreSetters c.args.lines.now s (c.loop-line.line-index + 1)) (sym w.setters-is) (setters_next c.args.lines.now c.loop-line.setters c.loop-line.line-index w.in-Mark.mark c.line-item.result c.requires at w.in-Mark.is less was.0),
            ap length w.setters-is ∙ (length-set c.loop-line.setters w.in-Mark.mark c.line-item.result.worker ∙ was.1),
          )
      | in_default w ↦ (
        subst (λ s. AreSetters c.args.lines.now s (c.loop-line.line-index + 1)) (sym w.setters-is) (setters_skip c.args.lines.now c.loop-line.setters c.loop-line.line-index c.line-item.result at w.in_default.not-Mark was.0),
        ap length w.setters-is ∙ was.1,
      )
    ]
