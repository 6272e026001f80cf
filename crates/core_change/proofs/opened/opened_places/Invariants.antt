use Rattle.std.proofs.Common.{◌≡◌, map}
use Rattle.core_table.specs.Machine.{opened_from}
use Rattle.core_table.specs.New.{cell_of}
use Rattle.core_change.proofs.opened.opened_places.Given as goal

abbrev pub invariant-loop-slot : goal.invariant-loop-slot
invariant-loop-slot l = l.places.items ≡ map cell_of (opened_from 0 l.slot)
