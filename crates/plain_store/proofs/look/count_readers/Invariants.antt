use Rattle.std.proofs.Common.{◌≡◌, ◌≤◌, take}
use Rattle.std.specs.Prelude.{count_by}
use Rattle.plain_model.specs.Store.{reads_at}
use Rattle.plain_store.proofs.look.count_readers.Given as goal

abbrev pub invariant-tabs : goal.invariant-tabs
invariant-tabs l = (l.count ≡ count_by (reads_at l.anchor) (take l.tab-index l.tabs)) × (l.count ≤ l.tab-index)
