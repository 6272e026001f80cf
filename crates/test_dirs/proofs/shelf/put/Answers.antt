use Rattle.std.proofs.Common.{lit<, refl}
use Rattle.test_dirs.specs.Offered.{offers_in}
use Rattle.test_dirs.proofs.Ready.{begun_writing, may_begin_in, of_one_size, refused_ready}
use Rattle.test_dirs.proofs.shelf.put.Goals as goal

pub dir_begin-requires-clause-sizes : goal.dir_begin-requires-clause-sizes
dir_begin-requires-clause-sizes g c = of_one_size g.C.Cell.tells g.C.Cell.state g.O.Origin.offers 3 (offers_in c.args.first.now c.args.second.now c.args.body.now) c.args.dirs.now c.args.pass.now c.requires.ready

pub dir_begin-requires-clause-may : goal.dir_begin-requires-clause-may
dir_begin-requires-clause-may g c = may_begin_in g.C.Cell.tells g.C.Cell.state g.O.Origin.offers 3 (offers_in c.args.first.now c.args.second.now c.args.body.now) c.args.first.now c.args.second.now c.args.body.now c.args.url.now c.args.line (lit< tt) refl c.requires.url (c.in-Ok.ensures.ok.0 refl) c.args.dirs.now c.args.pass.now c.requires.ready

pub stored-ended-requires-clause-writing : goal.stored-ended-requires-clause-writing
stored-ended-requires-clause-writing g c = begun_writing g.C.Cell.tells g.C.Cell.state g.O.Origin.offers 3 (offers_in c.args.first.now c.args.second.now c.args.body.now) c.args.first.now c.args.second.now c.args.body.now c.args.url.now c.args.line _ refl c.args.dirs.now c.args.pass.now c.dir_begin.new.pass c.args.pass.now.hand c.in-Ok-dir_begin.begun.0 c.in-Ok-dir_begin.begun.1
    c.requires.ready c.dir_begin.ensures.own c.in-Ok-dir_begin.ensures.at c.in-Ok-dir_begin.ensures.ok

pub returns-in-Err-clause-ready : goal.returns-in-Err-clause-ready
returns-in-Err-clause-ready g c = refused_ready g.C.Cell.tells g.C.Cell.state g.O.Origin.offers 3 (offers_in c.args.first.now c.args.second.now c.args.body.now) c.args.url.now c.args.line _ c.args.dirs.now c.args.pass.now c.dir_begin.new.pass _ c.requires.ready c.dir_begin.ensures.own c.requires.ready.own.many c.in-Err.ensures.err
