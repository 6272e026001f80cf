use Rattle.std.proofs.Common.{◌≡◌, ◌-◌, take}
use Rattle.std.specs.Prelude.{sum_by}
use Rattle.plain_model.specs.Slots.{held}
use Rattle.plain_store.proofs.slots.free.Given as goal

abbrev pub invariant-places : goal.invariant-places
invariant-places l = l.left ≡ l.setting.slots - sum_by (held l.setting.room) (take l.place-index l.place-items)
