use Rattle.std.proofs.Common.{inr, refl}
use Rattle.store_serve.proofs.Keeping.{not_writing}
use Rattle.store_serve.proofs.Leaving.{leaves_tab}
use Rattle.store_serve.proofs.writing.drop_tab.Goals as goal

pub returns-in-Writing-clause-leaves : goal.returns-in-Writing-clause-leaves
returns-in-Writing-clause-leaves g c = leaves_tab g.C.Cell.tells g.C.Cell.state g.O.Origin.offers c.args.store.now c.args.tab c.args.pass.now c.abort.new.pass c.abort.ensures.others c.abort.ensures.halts.parted.inner_free (c.writing_grows.ensures.halts _ _ _ _ c.abort.ensures.halts)

pub returns-in_default-clause-served : goal.returns-in_default-clause-served
returns-in_default-clause-served g c = record { met = inr (not_writing g.C.Cell.tells g.C.Cell.state g.O.Origin.offers c.args.store.now c.args.pass.now c.args.tab c.args.kept c.in_default.not-Writing c.requires.holds, record { answered = refl; still = refl }) }
