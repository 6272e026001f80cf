use Rattle.std.proofs.Common.{arith}
use Rattle.plain_rebuild.proofs.Owners.{owned_on}
use Rattle.named_rebuild.proofs.keeping.owners_of.Goals as goal

pub slots-preserved : goal.slots-preserved
slots-preserved c = (
  omega (arith, c.slots.invariant.0, c.in_ok-push.ensures.len),
  owned_on c.args.anchors c.args.winners.now c.slots.owners.items c.push.new.self.items c.slots.slot c.owner_of.result c.slots.invariant.0 c.slots.invariant.1 c.owner_of.ensures c.in_ok-push.ensures.items,
  omega (arith, c.slots-test.true),
)
