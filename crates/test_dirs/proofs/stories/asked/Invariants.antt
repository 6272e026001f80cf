use Rattle.std.proofs.Common.{true, ◌≡◌}
use Rattle.rock_disk.specs.File.{IsThere}
use Rattle.rock_disk.specs.Memory.{cell_state, volume_files}
use Rattle.std.specs.Prelude.{codes}
use Rattle.test_dirs.specs.Offered.{AreFiles, offers_in, offers_of}
use Rattle.test_dirs.proofs.stories.asked.Given as goal

abbrev pub invariant-loop : goal.invariant-loop
invariant-loop g l = AreFiles true cell_state offers_of 3 (offers_in l.first.items l.second.items l.body.items) l.stores.items l.passes.items
    × (l.stores.len ≡ l.counter)
    × IsThere (volume_files l.devices) (codes "db")
