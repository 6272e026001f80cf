use Rattle.std.proofs.Common.{sym, ◌∙◌}
use Rattle.worker_pool.proofs.Answering.{set_extends, set_holds, met_extends, met_holds}
use Rattle.worker_pool.proofs.serving.answered.Goals as goal

pub returns-in-Mark-clause-extends : goal.returns-in-Mark-clause-extends
returns-in-Mark-clause-extends g c = set_extends g.H.Shelf _ _ _ _ _ c.set_mark.ensures.set

pub returns-in-Mark-clause-holds : goal.returns-in-Mark-clause-holds
returns-in-Mark-clause-holds g c = set_holds g.H.Shelf _ c.args.earlier.now c.args.line.now _ _ _ _ c.in-Mark.is c.set_mark.ensures.set

pub returns-then-is_set-clause-extends : goal.returns-then-is_set-clause-extends
returns-then-is_set-clause-extends g c = met_extends g.H.Shelf _ _ _ _ _ c.meet_mark.ensures.met

pub returns-then-is_set-clause-holds : goal.returns-then-is_set-clause-holds
returns-then-is_set-clause-holds g c = met_holds g.H.Shelf _ c.args.earlier.now c.args.line.now _ _ _ _ (sym c.is_set.ensures ∙ c.if-is_set.true) c.meet_mark.ensures.met
