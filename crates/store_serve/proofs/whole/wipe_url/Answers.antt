use Rattle.core_model.specs.Tabs.{inner}
use Rattle.store_rule.specs.Passes.{basis, view}
use Rattle.store_serve.proofs.Faults.{as_told, faults_of_wipe}
use Rattle.store_serve.proofs.Leaving.{inner_stays, leaves_inner_reading, same_tabs}
use Rattle.store_serve.proofs.Wipes.{known}
use Rattle.store_serve.proofs.whole.wipe_url.Goals as goal

pub returns-clause-leaves : goal.returns-clause-leaves
returns-clause-leaves g c t = let p = c.args.pass.now in let q = c.purge_durable-outcome.new.pass in
    leaves_inner_reading g.C.Cell.tells g.C.Cell.state g.O.Origin.offers c.args.store.now t p q c.purge_durable-outcome.ensures.others (inner_stays (view p) (view q) (same_tabs (view p) (view q) c.purge_durable-outcome.ensures.free inner) c.requires.ready.inner_free)
    (known (basis g.C.Cell.tells g.C.Cell.state g.O.Origin.offers c.args.store.now) c.args.url.now (view p) (view q) c.purge_durable-outcome.result c.purge_durable-outcome.ensures.ok c.purge_durable-outcome.ensures.err)

pub returns-clause-faults : goal.returns-clause-faults
returns-clause-faults g c = as_told _ _ _ _ c.wiped.ensures (faults_of_wipe c.purge_durable-outcome.result _ _ c.purge_durable-outcome.ensures.unfailed c.purge_durable-outcome.ensures.failed)
