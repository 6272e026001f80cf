use Rattle.core_model.specs.Tabs.{inner}
use Rattle.store_rule.specs.Passes.{view}
use Rattle.store_serve.proofs.Leaving.{inner_beside, inner_stays, leaves_reading, leaves_tab, same_tabs}
use Rattle.store_serve.proofs.reading.open_tab.Goals as goal

pub returns-in-Ok-clause-leaves : goal.returns-in-Ok-clause-leaves
returns-in-Ok-clause-leaves g c = let p = c.args.pass.now in let q = c.open_entry.new.pass in let h = c.in-Ok.ensures.ok in
    leaves_reading g.C.Cell.tells g.C.Cell.state g.O.Origin.offers c.args.store.now c.args.tab p q c.in-Ok.ensures.others (inner_beside c.args.tab (view p) (view q) _ c.requires.below h.tabs c.requires.ready.inner_free)
    (c.reading_grows.ensures.opened _ _ c.in-Ok.version _ (view p) (view q) h)

pub returns-in-Err-clause-leaves : goal.returns-in-Err-clause-leaves
returns-in-Err-clause-leaves g c = let p = c.args.pass.now in let q = c.open_entry.new.pass in
    leaves_tab g.C.Cell.tells g.C.Cell.state g.O.Origin.offers c.args.store.now c.args.tab p q c.in-Err.ensures.refused (inner_stays (view p) (view q) (same_tabs (view p) (view q) c.in-Err.ensures.free inner) c.requires.ready.inner_free)
    (c.reading_grows.ensures.refused _ _ _ c.in-Err.cause (view p) (view q) c.in-Err.ensures.err)
