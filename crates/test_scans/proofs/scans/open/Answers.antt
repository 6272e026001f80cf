use Rattle.std.proofs.Common.{arith, refl}
use Rattle.test_scans.proofs.scans.open.Goals as goal

pub station-requires : goal.station-requires
station-requires c = c.opened_cells_are_the_files.ensures.there _ _ _ _ _ _ _ c.in_ok-cells.ensures.opened

pub returns-clause-slots : goal.returns-clause-slots
returns-clause-slots c = c.opened_slots_are_wide_and_few.ensures.slots _ _ _ _ (record { from = omega arith; to = omega arith; multiple = refl }) c.in_ok-cells.ensures.shape
