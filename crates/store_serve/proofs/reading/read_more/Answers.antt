use Rattle.std.proofs.Common.{inl, subst}
use Rattle.store_serve.specs.Tabs.{Holds}
use Rattle.store_serve.proofs.reading.read_more.Goals as goal

pub returns-in-Ok-clause-served : goal.returns-in-Ok-clause-served
returns-in-Ok-clause-served g c = record { met = inl (subst (λ z. Holds g.C.Cell.tells g.C.Cell.state g.O.Origin.offers c.args.store.now c.args.pass.now c.args.tab z) c.in-Reading.is c.requires.holds, λ e reads. c.in-Ok.ensures.served e reads) }
