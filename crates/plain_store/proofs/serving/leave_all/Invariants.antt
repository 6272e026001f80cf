use Rattle.std.proofs.Common.{◌≡◌, ◌-◌}
use Rattle.std.specs.List.{range_with_len}
use Rattle.plain_model.specs.Serving.{leave_all}
use Rattle.plain_store.proofs.serving.leave_all.Given as goal

abbrev pub invariant-tabs : goal.invariant-tabs
invariant-tabs l = leave_all (range_with_len 0 8) l.fn.store ≡ leave_all (range_with_len l.tab (8 - l.tab)) l.store
