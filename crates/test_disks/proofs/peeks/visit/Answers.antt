use Rattle.rock_disk.specs.Memory.{volume_files}
use Rattle.test_disks.proofs.Kept.{back_still}
use Rattle.test_disks.proofs.peeks.visit.Goals as goal

pub returns : goal.returns
returns c = c.kept_files_have_their_bytes.ensures.home 512 _ (volume_files c.args.volume.now) (volume_files c.give_back.new.self)
    (c.opened_cells_may_be_given_back.ensures.kept _ _ _ _ _ _ _ _ c.in-Ok.ensures.opened (back_still _ _ _ _ _ _ c.station_fault-fault.ensures c.give_back.ensures.back))
    c.requires
