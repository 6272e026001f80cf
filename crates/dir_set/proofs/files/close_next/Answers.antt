use Rattle.dir_set.proofs.Closings.{may_close_row}
use Rattle.dir_set.proofs.files.close_next.Goals as goal

pub close_file-requires-clause-may : goal.close_file-requires-clause-may
close_file-requires-clause-may g c κs within = may_close_row g.V.Volume.tells g.V.C.Cell.tells g.V.C.Cell.state g.O.Origin.offers (g.V.Volume.files c.args.volume.now) c.args.workers.now c.args.dir c.args.name.now c.args.store c.args.home
    c.gather.new.room.items c.requires.may c.gather.ensures.passes
