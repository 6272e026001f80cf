use Rattle.store_rule.specs.Passes.{view}
use Rattle.store_serve.proofs.Leaving.{inner_beside, leaves_tab}
use Rattle.store_serve.proofs.reading.close_tab.Goals as goal

pub returns-in-Reading-clause-leaves : goal.returns-in-Reading-clause-leaves
returns-in-Reading-clause-leaves g c = let p = c.args.pass.now in let q = c.close_entry.new.pass in
    leaves_tab g.C.Cell.tells g.C.Cell.state g.O.Origin.offers c.args.store.now c.args.tab p q c.close_entry.ensures.others (inner_beside c.args.tab (view p) (view q) _ c.requires.below c.close_entry.ensures.free c.requires.ready.inner_free)
    (c.reading_grows.ensures.parted _ _ (view p) (view q) c.close_entry.ensures.parted)
