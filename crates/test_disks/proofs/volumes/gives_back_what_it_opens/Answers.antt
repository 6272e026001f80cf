use Rattle.std.proofs.Common.{◌≡◌, length, map, drop, arith, refl, ap, ◌∙◌}
use Rattle.rock_disk.specs.Memory.{cell_state}
use Rattle.test_disks.proofs.Kept.{out_still, filled}
use Rattle.test_disks.proofs.volumes.gives_back_what_it_opens.Goals as goal

pub station-requires : goal.station-requires
station-requires g c = c.opened_cells_are_the_files.ensures.there _ _ _ _ _ _ _ c.in_ok-header.ensures.opened

pub give_back-requires : goal.give_back-requires
give_back-requires g c =
    let long : length c.read_cells-read.new.cells ≡ length c.deref_mut.result.now = c.read_cells-read.auto.cells in
    let whole = filled c.read_cells-read.new.cells (drop (length c.read_cells-read.new.cells) c.in_ok-header.field-0.cells.items) c.in_ok-header.field-0.cells.len (omega arith) in
    out_still (c.end_station.ensures.files ∙ c.in_ok-station.ensures.files)
    (ap (map cell_state) whole ∙ (c.read_cells-read.ensures ∙ ap (map cell_state) c.deref_mut.ensures.value))
    (c.opened_cells_may_be_given_back.ensures.out _ _ _ _ _ _ _ _ _ c.in_ok-header.ensures.shape c.in_ok-header.ensures.opened refl refl)
