use Rattle.core_model.specs.Tabs.{inner}
use Rattle.store_rule.specs.Passes.{view}
use Rattle.store_serve.proofs.Leaving.{inner_stays, leaves_inner, same_tabs}
use Rattle.store_serve.proofs.Outcomes.{either_way}
use Rattle.store_serve.proofs.whole.purge_url.Goals as goal

pub returns-clause-leaves : goal.returns-clause-leaves
returns-clause-leaves g c t = let p = c.args.pass.now in let q = c.purge-outcome.new.pass in
    leaves_inner g.C.Cell.tells g.C.Cell.state g.O.Origin.offers c.args.store.now t p q c.purge-outcome.ensures.others (inner_stays (view p) (view q) (same_tabs (view p) (view q) c.purge-outcome.ensures.free inner) c.requires.ready.inner_free)
    (either_way c.purge-outcome.result (λ left h. c.purging_grows.ensures.purged _ _ _ left (view p) (view q) h) (λ cause h. c.purging_grows.ensures.refused _ _ _ cause (view p) (view q) h)
    c.purge-outcome.ensures.ok c.purge-outcome.ensures.err)
