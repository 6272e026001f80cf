use Rattle.plain_rebuild.proofs.Best.{at_end}
use Rattle.plain_rebuild.proofs.keeping.winner_at.Goals as goal

pub returns : goal.returns
returns c = at_end c.args.slot c.args.images.now c.args.anchors c.args.anchor c.slots.first c.slots.best c.slots.invariant.0 c.slots-test.false
