use Rattle.std.proofs.Common.{◌+◌, ◌-◌, ap, ◌∙◌, add_assoc}
use Rattle.plain_model.specs.Slots.{grow}
use Rattle.plain_store.proofs.Growing.{grow_on}
use Rattle.plain_store.proofs.slots.grow.Goals as goal

pub publishings-preserved : goal.publishings-preserved
publishings-preserved c =
    c.publishings.invariant
    ∙ grow_on c.args.setting.now c.args.anchor c.args.content c.publishings.i c.args.publishings (c.args.filled + c.publishings.i) c.publishings.store c.publish.new.store c.publishings-test.true c.in-None.ensures
    ∙ ap (λ m. grow c.args.setting.now c.args.anchor c.args.content (c.args.publishings - (c.publishings.i + 1)) m c.publish.new.store) (add_assoc c.args.filled c.publishings.i 1)
