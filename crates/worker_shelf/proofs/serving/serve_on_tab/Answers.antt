use Rattle.std.proofs.Common.{subst, sym}
use Rattle.store_serve.specs.Tabs.{Holds}
use Rattle.worker_shelf.specs.Shelves.{AllHold}
use Rattle.worker_shelf.proofs.Holding.{all_hold, holds_taken, set_twice}
use Rattle.worker_shelf.proofs.serving.serve_on_tab.Goals as goal

pub on_tab-requires-clause-holds : goal.on_tab-requires-clause-holds
on_tab-requires-clause-holds g c = holds_taken g.C.Cell.tells g.C.Cell.state g.O.Origin.offers c.args.store.now c.args.pass.now c.args.tab c.args.tabs.now c.replace-kept.result _ c.requires.holds c.requires.below c.replace-kept.ensures.value

pub returns-in-Ok-clause-holds : goal.returns-in-Ok-clause-holds
returns-in-Ok-clause-holds g c = let q = c.on_tab.new.pass in
    subst (λ z. AllHold g.C.Cell.tells g.C.Cell.state g.O.Origin.offers c.args.store.now q z) (sym (set_twice c.args.tabs.now c.args.tab c.replace-kept.new.dest c.in-Ok.told.tab))
    (all_hold g.C.Cell.tells g.C.Cell.state g.O.Origin.offers c.args.store.now record { writes = c.requests_keep_other_tabs.ensures.writes c.args.store.now; reads = c.requests_keep_other_tabs.ensures.reads c.args.store.now } c.args.tab c.args.pass.now q c.in-Ok.ensures.leaves c.args.tabs.now c.in-Ok.told.tab c.requires.holds c.requires.below c.in-Ok.ensures.holds)

pub returns-in-Err-clause-holds : goal.returns-in-Err-clause-holds
returns-in-Err-clause-holds g c = let q = c.on_tab.new.pass in
    all_hold g.C.Cell.tells g.C.Cell.state g.O.Origin.offers c.args.store.now record { writes = c.requests_keep_other_tabs.ensures.writes c.args.store.now; reads = c.requests_keep_other_tabs.ensures.reads c.args.store.now } c.args.tab c.args.pass.now q c.in-Err.ensures.leaves c.args.tabs.now c.replace-kept.new.dest c.requires.holds c.requires.below
    (subst (λ z. Holds g.C.Cell.tells g.C.Cell.state g.O.Origin.offers c.args.store.now q c.args.tab z) (sym c.replace-kept.ensures.after) c.in-Err.ensures.free)
