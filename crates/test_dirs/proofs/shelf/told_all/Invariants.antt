use Rattle.std.proofs.Common.{length, ◌≡◌}
use Rattle.dir_set.specs.Dirs.{dir_count}
use Rattle.test_dirs.specs.Offered.{IsReady, offers_in}
use Rattle.test_dirs.proofs.shelf.told_all.Given as goal

abbrev pub invariant-loop-ask : goal.invariant-loop-ask
invariant-loop-ask g l = record {
  ready : IsReady g.C.Cell.tells g.C.Cell.state g.O.Origin.offers 3 (offers_in l.first l.second l.body) l.dirs l.pass;
  stations : length l.stations ≡ dir_count l.dirs;
}
