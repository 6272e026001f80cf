use Rattle.std.proofs.Common.{arith, length, ◌≡◌}
use Rattle.test_dirs.specs.Offered.{offers_in}
use Rattle.test_dirs.proofs.Writing.{abort_ready, append_ready, appended_writing, finish_ready, may_append, may_finish}
use Rattle.test_dirs.proofs.shelf.stored.Goals as goal

pub dir_append-requires-clause-may : goal.dir_append-requires-clause-may
dir_append-requires-clause-may g c s p es ep = let h = c.requires.writing.at s p es ep in (h.entry, may_append g.C.Cell.tells g.C.Cell.state g.O.Origin.offers 3 (offers_in c.args.first.now c.args.second.now c.args.body.now) c.args.body.now s p h)

pub returns-in-Err-clause-ready : goal.returns-in-Err-clause-ready
returns-in-Err-clause-ready g c = append_ready g.C.Cell.tells g.C.Cell.state g.O.Origin.offers 3 (offers_in c.args.first.now c.args.second.now c.args.body.now) c.args.body.now c.args.dirs.now c.args.pass.now c.dir_append.new.pass c.dir_append.ensures.own c.dir_append.ensures.only c.in-Err.fault c.requires.writing c.in-Err.ensures.err

pub dir_abort-requires-clause-may : goal.dir_abort-requires-clause-may
dir_abort-requires-clause-may g c s p es ep = let h = (appended_writing g.C.Cell.tells g.C.Cell.state g.O.Origin.offers 3 (offers_in c.args.first.now c.args.second.now c.args.body.now) c.args.body.now c.args.dirs.now c.args.pass.now c.dir_append.new.pass c.dir_append.ensures.own c.dir_append.ensures.only c.in-Ok.taken c.requires.writing c.in-Ok.ensures.ok).at s p es ep in (h.entry, h.writes)

pub returns-then-taken-body-clause-ready : goal.returns-then-taken-body-clause-ready
returns-then-taken-body-clause-ready g c = abort_ready g.C.Cell.tells g.C.Cell.state g.O.Origin.offers 3 (offers_in c.args.first.now c.args.second.now c.args.body.now) c.args.body.now c.args.dirs.now c.dir_append.new.pass c.dir_abort.new.pass c.dir_abort.ensures.own c.dir_abort.ensures.only c.in-Ok.taken (appended_writing g.C.Cell.tells g.C.Cell.state g.O.Origin.offers 3 (offers_in c.args.first.now c.args.second.now c.args.body.now) c.args.body.now c.args.dirs.now c.args.pass.now c.dir_append.new.pass c.dir_append.ensures.own c.dir_append.ensures.only c.in-Ok.taken c.requires.writing c.in-Ok.ensures.ok) c.dir_abort.ensures.halts

pub dir_finish-requires-clause-may : goal.dir_finish-requires-clause-may
dir_finish-requires-clause-may g c s p es ep = let all : c.in-Ok.taken ≡ length c.args.body.now = omega (arith, c.in-Ok.ensures.within, c.if-taken-body.false) in
    let h = (appended_writing g.C.Cell.tells g.C.Cell.state g.O.Origin.offers 3 (offers_in c.args.first.now c.args.second.now c.args.body.now) c.args.body.now c.args.dirs.now c.args.pass.now c.dir_append.new.pass c.dir_append.ensures.own c.dir_append.ensures.only c.in-Ok.taken c.requires.writing c.in-Ok.ensures.ok).at s p es ep in (h.entry, may_finish g.C.Cell.tells g.C.Cell.state g.O.Origin.offers 3 (offers_in c.args.first.now c.args.second.now c.args.body.now) c.args.body.now c.in-Ok.taken s p all h)

pub returns-clause-ready : goal.returns-clause-ready
returns-clause-ready g c = let all : c.in-Ok.taken ≡ length c.args.body.now = omega (arith, c.in-Ok.ensures.within, c.if-taken-body.false) in
    finish_ready g.C.Cell.tells g.C.Cell.state g.O.Origin.offers 3 (offers_in c.args.first.now c.args.second.now c.args.body.now) c.args.body.now c.args.dirs.now c.dir_append.new.pass c.dir_finish.new.pass c.dir_finish.ensures.own c.dir_finish.ensures.only c.in-Ok.taken all (appended_writing g.C.Cell.tells g.C.Cell.state g.O.Origin.offers 3 (offers_in c.args.first.now c.args.second.now c.args.body.now) c.args.body.now c.args.dirs.now c.args.pass.now c.dir_append.new.pass c.dir_append.ensures.own c.dir_append.ensures.only c.in-Ok.taken c.requires.writing c.in-Ok.ensures.ok) c.dir_finish.result c.dir_finish.ensures.ok c.dir_finish.ensures.err
