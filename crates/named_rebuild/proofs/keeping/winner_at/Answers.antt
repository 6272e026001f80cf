use Rattle.named_rebuild.proofs.Best.{at_end}
use Rattle.named_rebuild.proofs.keeping.winner_at.Goals as goal

pub returns : goal.returns
returns c = at_end c.args.file.now c.args.contents.now c.args.anchors c.args.anchor c.slots.first c.slots.best c.requires.one_a_slot c.slots.invariant.0 c.slots-test.false
