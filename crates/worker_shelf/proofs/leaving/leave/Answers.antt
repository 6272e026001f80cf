use Rattle.std.proofs.Common.{subst}
use Rattle.store_serve.specs.Tabs.{Holds}
use Rattle.worker_shelf.proofs.Partings.{left_reader, left_writer}
use Rattle.worker_shelf.proofs.leaving.leave.Goals as goal

pub returns-in-Reading : goal.returns-in-Reading
returns-in-Reading g c = left_reader g.C.Cell.tells g.C.Cell.state g.O.Origin.offers c.args.store.now c.args.tab c.args.pass.now c.close_tab.new.pass _ c.close_tab.ensures.served
    (subst (λ z. Holds g.C.Cell.tells g.C.Cell.state g.O.Origin.offers c.args.store.now c.args.pass.now c.args.tab z) c.in-Reading.is c.requires.holds) c.close_tab.ensures.leaves

pub returns-in-Writing : goal.returns-in-Writing
returns-in-Writing g c = let h = subst (λ z. Holds g.C.Cell.tells g.C.Cell.state g.O.Origin.offers c.args.store.now c.args.pass.now c.args.tab z) c.in-Writing.is c.requires.holds in
    left_writer g.C.Cell.tells g.C.Cell.state g.O.Origin.offers c.args.store.now c.args.tab c.args.pass.now c.drop_tab.new.pass _ c.drop_tab.ensures.served (h.entry, h.writes) c.drop_tab.ensures.leaves
