use Rattle.std.proofs.Common.{drop, ◌≡◌}
use Rattle.rock_disk.specs.Counts.{counts}
use Rattle.dir_set.specs.Files.{HaveOpened}
use Rattle.dir_set.specs.Parts.{AreOpen}
use Rattle.dir_set.proofs.files.open_dirs.Given as goal

abbrev pub invariant-loop-dir : goal.invariant-loop-dir
invariant-loop-dir g l = record {
  opened : AreOpen g.V.Volume.tells g.V.C.Cell.tells g.V.C.Cell.state g.O.Origin.offers (g.V.Volume.files l.fn.volume) (g.V.Volume.files l.volume) l.slot l.anchors l.passes l.names l.fn.origins.items l.dir l.parts;
  stations : HaveOpened l.dir (counts g.V.Volume.faults g.V.Volume.made g.V.Volume.ended l.fn.volume)
      (counts g.V.Volume.faults g.V.Volume.made g.V.Volume.ended l.volume);
  left : l.origins.items ≡ drop l.dir l.fn.origins.items;
}
