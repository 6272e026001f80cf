use Rattle.std.proofs.Common.{length, ◌≡◌}
use Rattle.dir_set.specs.Dirs.{IsDirPass, NoneBehind}
use Rattle.dir_set.proofs.Range.{Ranges}
use Rattle.dir_set.proofs.Said.{Purges}
use Rattle.dir_set.proofs.purging.purge_all.Given as goal

abbrev pub invariant-loop-dir : goal.invariant-loop-dir
invariant-loop-dir g l = record {
  ranges : Ranges l.dirs l.initial.pass l.pass (Purges g.C.Cell.tells g.C.Cell.state g.O.Origin.offers l.url l.left l.causes) 0 l.dir;
  own : IsDirPass g.C.Cell.tells g.C.Cell.state g.O.Origin.offers l.dirs l.pass;
  none_left : NoneBehind l.dir l.left;
  none_causes : NoneBehind l.dir l.causes;
  room : (length l.left ≡ 8) × (length l.causes ≡ 8);
}
