use Rattle.test_disks.proofs.Kept.{there_still}
use Rattle.test_disks.proofs.volumes.fails_at_the_listed_calls.Goals as goal

pub station_fault-refused-requires : goal.station_fault-refused-requires
station_fault-refused-requires g c = c.opened_cells_are_the_files.ensures.there _ _ _ _ _ _ _ c.in_ok-cells.ensures.opened

pub station-requires : goal.station-requires
station-requires g c =
    there_still _ c.station_fault-refused.ensures (c.opened_cells_are_the_files.ensures.there _ _ _ _ _ _ _ c.in_ok-cells.ensures.opened)
