use Rattle.std.proofs.Common.{length, ◌≡◌}
use Rattle.dir_set.proofs.Closings.{Closing}
use Rattle.dir_set.proofs.files.close_parts.Given as goal

abbrev pub invariant-loop-store : goal.invariant-loop-store
invariant-loop-store g l = record {
  closing : Closing g.V.Volume.tells g.V.C.Cell.tells g.V.C.Cell.state g.O.Origin.offers l.names (g.V.Volume.files l.initial.volume) (g.V.Volume.files l.volume) l.initial.parts l.parts (length l.parts.stores.items);
  faults : g.V.Volume.faults l.volume ≡ g.V.Volume.faults l.initial.volume;
  made : g.V.Volume.made l.volume ≡ g.V.Volume.made l.initial.volume;
  ended : g.V.Volume.ended l.volume ≡ g.V.Volume.ended l.initial.volume;
}

abbrev pub decreases-loop-store : goal.decreases-loop-store
decreases-loop-store g l = length l.parts.stores.items
