use Rattle.std.proofs.Common.{List, ap, get_or, refl, subst, sym, ◌∙◌, ℕ}
use Rattle.core_model.specs.declared.tab.Tab.TheVariants.{Free}
use Rattle.store_serve.specs.Serving.{ServesRequest}
use Rattle.store_serve.specs.Whole.{Purges, Wipes, whole_tab}
use Rattle.worker_shelf.proofs.Holding.{all_hold_whole}
use Rattle.worker_shelf.proofs.serving.serve_line.Goals as goal

pub returns-in-Put-clause-holds : goal.returns-in-Put-clause-holds
returns-in-Put-clause-holds g c = all_hold_whole g.C.Cell.tells g.C.Cell.state g.O.Origin.offers c.args.store.now record { writes = c.requests_keep_other_tabs.ensures.writes c.args.store.now; reads = c.requests_keep_other_tabs.ensures.reads c.args.store.now } whole_tab c.args.pass.now c.put_whole.new.pass c.put_whole.ensures.leaves c.args.tabs.now refl c.requires.holds c.put_whole.ensures.served.free

pub returns-in-Get-clause-holds : goal.returns-in-Get-clause-holds
returns-in-Get-clause-holds g c = all_hold_whole g.C.Cell.tells g.C.Cell.state g.O.Origin.offers c.args.store.now record { writes = c.requests_keep_other_tabs.ensures.writes c.args.store.now; reads = c.requests_keep_other_tabs.ensures.reads c.args.store.now } whole_tab c.args.pass.now c.get_whole.new.pass c.get_whole.ensures.leaves c.args.tabs.now refl c.requires.holds c.get_whole.ensures.free

pub returns-in-Purge-clause-holds : goal.returns-in-Purge-clause-holds
returns-in-Purge-clause-holds g c = all_hold_whole g.C.Cell.tells g.C.Cell.state g.O.Origin.offers c.args.store.now record { writes = c.requests_keep_other_tabs.ensures.writes c.args.store.now; reads = c.requests_keep_other_tabs.ensures.reads c.args.store.now } whole_tab c.args.pass.now c.purge_url.new.pass (c.purge_url.ensures.leaves whole_tab) c.args.tabs.now refl c.requires.holds (ap (λ xs. get_or xs whole_tab Free) c.purge_url.ensures.served.same ∙ c.requires.holds.whole)

pub returns-in-Purge-clause-keeps : goal.returns-in-Purge-clause-keeps
returns-in-Purge-clause-keeps g c = (c.purge_url.ensures.leaves whole_tab).keeps

pub returns-in-Purge-clause-places : goal.returns-in-Purge-clause-places
returns-in-Purge-clause-places g c = (c.purge_url.ensures.leaves whole_tab).places

pub returns-in-Purge-clause-cells : goal.returns-in-Purge-clause-cells
returns-in-Purge-clause-cells g c = (c.purge_url.ensures.leaves whole_tab).cells

pub returns-in-Save-clause-holds : goal.returns-in-Save-clause-holds
returns-in-Save-clause-holds g c = all_hold_whole g.C.Cell.tells g.C.Cell.state g.O.Origin.offers c.args.store.now record { writes = c.requests_keep_other_tabs.ensures.writes c.args.store.now; reads = c.requests_keep_other_tabs.ensures.reads c.args.store.now } whole_tab c.args.pass.now c.put_whole-in-Save.new.pass c.put_whole-in-Save.ensures.leaves c.args.tabs.now refl c.requires.holds c.put_whole-in-Save.ensures.served.free

pub returns-in-Purge-clause-served : goal.returns-in-Purge-clause-served
returns-in-Purge-clause-served g c = record {
  request = subst (λ z. ServesRequest g.C.Cell.tells g.C.Cell.state g.O.Origin.offers c.args.store.now c.args.line.now.number c.args.pass.now c.purge_url.result c.purge_url.new.pass z) (sym c.in-Purge.is)
      (subst (λ (u : List ℕ). Purges g.C.Cell.tells g.C.Cell.state g.O.Origin.offers c.args.store.now u c.args.pass.now c.purge_url.result c.purge_url.new.pass) c.as_slice-in-Purge.ensures c.purge_url.ensures.served);
  leaves = λ t uses. c.purge_url.ensures.leaves t;
  faults = record { rose = λ is. let none = c.purge_url.ensures.no_fault in absurd (cc); same = λ is. refl };
}

pub returns-in-Wipe-clause-holds : goal.returns-in-Wipe-clause-holds
returns-in-Wipe-clause-holds g c = all_hold_whole g.C.Cell.tells g.C.Cell.state g.O.Origin.offers c.args.store.now record { writes = c.requests_keep_other_tabs.ensures.writes c.args.store.now; reads = c.requests_keep_other_tabs.ensures.reads c.args.store.now } whole_tab c.args.pass.now c.wipe_url.new.pass (c.wipe_url.ensures.leaves whole_tab) c.args.tabs.now refl c.requires.holds (ap (λ xs. get_or xs whole_tab Free) c.wipe_url.ensures.served.same ∙ c.requires.holds.whole)

pub returns-in-Wipe-clause-keeps : goal.returns-in-Wipe-clause-keeps
returns-in-Wipe-clause-keeps g c = (c.wipe_url.ensures.leaves whole_tab).keeps

pub returns-in-Wipe-clause-places : goal.returns-in-Wipe-clause-places
returns-in-Wipe-clause-places g c = (c.wipe_url.ensures.leaves whole_tab).places

pub returns-in-Wipe-clause-cells : goal.returns-in-Wipe-clause-cells
returns-in-Wipe-clause-cells g c = (c.wipe_url.ensures.leaves whole_tab).cells

pub returns-in-Wipe-clause-served : goal.returns-in-Wipe-clause-served
returns-in-Wipe-clause-served g c = record {
  request = subst (λ z. ServesRequest g.C.Cell.tells g.C.Cell.state g.O.Origin.offers c.args.store.now c.args.line.now.number c.args.pass.now c.wipe_url.result c.wipe_url.new.pass z) (sym c.in-Wipe.is)
      (subst (λ (u : List ℕ). Wipes g.C.Cell.tells g.C.Cell.state g.O.Origin.offers c.args.store.now u c.args.pass.now c.wipe_url.result c.wipe_url.new.pass) c.as_slice-in-Wipe.ensures c.wipe_url.ensures.served);
  leaves = λ t uses. c.wipe_url.ensures.leaves t;
  faults = c.wipe_url.ensures.faults;
}
