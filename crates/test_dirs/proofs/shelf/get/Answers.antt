use Rattle.std.proofs.Common.{arith, refl}
use Rattle.test_dirs.specs.Offered.{offers_in}
use Rattle.test_dirs.proofs.Reading.{close_ready, may_open_in, missed_ready, more_reading, opened_reading}
use Rattle.test_dirs.proofs.shelf.get.Goals as goal

pub dir_open-requires-clause-may : goal.dir_open-requires-clause-may
dir_open-requires-clause-may g c = may_open_in g.C.Cell.tells g.C.Cell.state g.O.Origin.offers 3 (offers_in c.args.first.now c.args.second.now c.args.body.now) c.args.first.now c.args.second.now c.args.body.now c.args.url.now (omega arith) refl c.args.dirs.now c.args.pass.now c.requires.ready

pub dir_more-more-requires-clause-may : goal.dir_more-more-requires-clause-may
dir_more-more-requires-clause-may g c s p es ep = let h = (opened_reading g.C.Cell.tells g.C.Cell.state g.O.Origin.offers 3 (offers_in c.args.first.now c.args.second.now c.args.body.now) c.args.url.now c.in-Ok.opened.0 c.in-Ok.opened.1 c.args.dirs.now c.args.pass.now c.dir_open.new.pass (omega arith) c.requires.ready c.dir_open.ensures.own c.in-Ok.ensures.at c.in-Ok.ensures.ok).at s p es ep in c.reading_tabs_may_go_on.ensures.more s p 3 600 h.standing h.reads
    (let size = c.requires.ready.sizes _ s es in omega (arith, size))

pub dir_close-requires-clause-may : goal.dir_close-requires-clause-may
dir_close-requires-clause-may g c s p es ep = let h = (more_reading g.C.Cell.tells g.C.Cell.state g.O.Origin.offers 3 (offers_in c.args.first.now c.args.second.now c.args.body.now) c.args.dirs.now c.dir_open.new.pass c.dir_more-more.new.pass (opened_reading g.C.Cell.tells g.C.Cell.state g.O.Origin.offers 3 (offers_in c.args.first.now c.args.second.now c.args.body.now) c.args.url.now c.in-Ok.opened.0 c.in-Ok.opened.1 c.args.dirs.now c.args.pass.now c.dir_open.new.pass (omega arith) c.requires.ready c.dir_open.ensures.own c.in-Ok.ensures.at c.in-Ok.ensures.ok) c.dir_more-more.ensures.own c.dir_more-more.ensures.only _ _ c.dir_more-more.result c.dir_more-more.ensures.gave c.dir_more-more.ensures.inner).at s p es ep in c.reading_tabs_may_go_on.ensures.close s p 3 h.standing h.reads h.inner_free

pub returns-in-Ok-clause-ready : goal.returns-in-Ok-clause-ready
returns-in-Ok-clause-ready g c = close_ready g.C.Cell.tells g.C.Cell.state g.O.Origin.offers 3 (offers_in c.args.first.now c.args.second.now c.args.body.now) c.args.dirs.now c.dir_more-more.new.pass c.dir_close.new.pass (more_reading g.C.Cell.tells g.C.Cell.state g.O.Origin.offers 3 (offers_in c.args.first.now c.args.second.now c.args.body.now) c.args.dirs.now c.dir_open.new.pass c.dir_more-more.new.pass (opened_reading g.C.Cell.tells g.C.Cell.state g.O.Origin.offers 3 (offers_in c.args.first.now c.args.second.now c.args.body.now) c.args.url.now c.in-Ok.opened.0 c.in-Ok.opened.1 c.args.dirs.now c.args.pass.now c.dir_open.new.pass (omega arith) c.requires.ready c.dir_open.ensures.own c.in-Ok.ensures.at c.in-Ok.ensures.ok) c.dir_more-more.ensures.own c.dir_more-more.ensures.only _ _ c.dir_more-more.result c.dir_more-more.ensures.gave c.dir_more-more.ensures.inner) c.dir_close.ensures.own c.dir_close.ensures.only (omega arith) (omega arith) c.dir_close.ensures.free

pub returns-in-Err-clause-ready : goal.returns-in-Err-clause-ready
returns-in-Err-clause-ready g c = missed_ready g.C.Cell.tells g.C.Cell.state g.O.Origin.offers 3 (offers_in c.args.first.now c.args.second.now c.args.body.now) 3 c.args.url.now c.in-Err.miss.causes c.args.dirs.now c.args.pass.now c.dir_open.new.pass c.requires.ready c.dir_open.ensures.own c.in-Err.ensures.err
