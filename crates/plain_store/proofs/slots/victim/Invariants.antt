use Rattle.std.proofs.Common.{◌≡◌, ◌+◌, ◌-◌, ◌%◌}
use Rattle.std.specs.Prelude.{map, find}
use Rattle.std.specs.List.{range_with_len}
use Rattle.plain_model.specs.Store.{is_idle_at}
use Rattle.plain_model.specs.Slots.{victim}
use Rattle.plain_store.proofs.slots.victim.Given as goal

abbrev pub invariant-turn : goal.invariant-turn
invariant-turn l = victim l.setting l.store ≡ find (λ anchor. is_idle_at l.store anchor) (map (λ i. (l.store.hand + i) % l.anchors) (range_with_len l.i (l.anchors - l.i)))
