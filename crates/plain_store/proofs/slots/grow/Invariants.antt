use Rattle.std.proofs.Common.{◌≡◌, ◌+◌, ◌-◌}
use Rattle.plain_model.specs.Slots.{grow}
use Rattle.plain_store.proofs.slots.grow.Given as goal

abbrev pub invariant-publishings : goal.invariant-publishings
invariant-publishings l = grow l.setting l.anchor l.content l.publishings l.filled l.fn.store ≡ grow l.setting l.anchor l.content (l.publishings - l.i) (l.filled + l.i) l.store
