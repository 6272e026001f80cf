use Rattle.std.proofs.Common.{inr, refl}
use Rattle.store_serve.proofs.Keeping.{not_writing}
use Rattle.store_serve.proofs.writing.end_tab.Goals as goal

pub returns-in_default-clause-served : goal.returns-in_default-clause-served
returns-in_default-clause-served g c = record { met = inr (not_writing g.C.Cell.tells g.C.Cell.state g.O.Origin.offers c.args.store.now c.args.pass.now c.args.tab c.args.kept c.in_default.not-Writing c.requires.holds, record { answered = refl; still = refl }) }
