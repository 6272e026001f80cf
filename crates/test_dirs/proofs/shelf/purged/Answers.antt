use Rattle.std.proofs.Common.{refl}
use Rattle.core_model.specs.Tabs.{inner}
use Rattle.test_dirs.specs.Offered.{offers_in}
use Rattle.test_dirs.proofs.Reading.{may_purge_in, missed_ready, purged_ready}
use Rattle.test_dirs.proofs.shelf.purged.Goals as goal

pub dir_purge-requires-clause-may : goal.dir_purge-requires-clause-may
dir_purge-requires-clause-may g c = may_purge_in g.C.Cell.tells g.C.Cell.state g.O.Origin.offers 3 (offers_in c.args.first.now c.args.second.now c.args.body.now) c.args.first.now c.args.second.now c.args.body.now c.args.url.now refl c.args.dirs.now c.args.pass.now c.requires.ready

pub returns-in-Ok : goal.returns-in-Ok
returns-in-Ok g c = record { ready = purged_ready g.C.Cell.tells g.C.Cell.state g.O.Origin.offers 3 (offers_in c.args.first.now c.args.second.now c.args.body.now) c.args.url.now c.in-Ok.left c.args.dirs.now c.args.pass.now c.dir_purge.new.pass c.requires.ready c.dir_purge.ensures.own c.in-Ok.ensures.ok }

pub returns-in-Err : goal.returns-in-Err
returns-in-Err g c = record { ready = missed_ready g.C.Cell.tells g.C.Cell.state g.O.Origin.offers 3 (offers_in c.args.first.now c.args.second.now c.args.body.now) inner c.args.url.now c.in-Err.miss.causes c.args.dirs.now c.args.pass.now c.dir_purge.new.pass c.requires.ready c.dir_purge.ensures.own c.in-Err.ensures.err }
