use Rattle.std.proofs.Common.{ap, get_or, ◌∙◌}
use Rattle.core_model.specs.declared.tab.Tab.TheVariants.{Free}
use Rattle.test_forwarding_kit.specs.Shared.{shared_of}
use Rattle.test_forwarding_kit.proofs.Holding.{holds_still, ready_again}
use Rattle.test_forwarding_kit.proofs.serving.serve_whole.Goals as goal

pub returns-in-Put-clause-ready : goal.returns-in-Put-clause-ready
returns-in-Put-clause-ready g c = ready_again g.C.Cell.tells g.C.Cell.state shared_of c.args.store.now c.args.pass.now c.put_whole.new.pass c.put_whole.ensures.served.free c.put_whole.ensures.leaves

pub returns-in-Put-clause-holds : goal.returns-in-Put-clause-holds
returns-in-Put-clause-holds g c kept h = holds_still g.C.Cell.tells g.C.Cell.state shared_of c.args.store.now record { writes = c.requests_keep_other_tabs.ensures.writes c.args.store.now; reads = c.requests_keep_other_tabs.ensures.reads c.args.store.now } c.args.pass.now c.put_whole.new.pass c.put_whole.ensures.leaves kept h

pub returns-in-Get-clause-ready : goal.returns-in-Get-clause-ready
returns-in-Get-clause-ready g c = ready_again g.C.Cell.tells g.C.Cell.state shared_of c.args.store.now c.args.pass.now c.get_whole.new.pass c.get_whole.ensures.free c.get_whole.ensures.leaves

pub returns-in-Get-clause-holds : goal.returns-in-Get-clause-holds
returns-in-Get-clause-holds g c kept h = holds_still g.C.Cell.tells g.C.Cell.state shared_of c.args.store.now record { writes = c.requests_keep_other_tabs.ensures.writes c.args.store.now; reads = c.requests_keep_other_tabs.ensures.reads c.args.store.now } c.args.pass.now c.get_whole.new.pass c.get_whole.ensures.leaves kept h

pub returns-in-Purge-clause-ready : goal.returns-in-Purge-clause-ready
returns-in-Purge-clause-ready g c = ready_again g.C.Cell.tells g.C.Cell.state shared_of c.args.store.now c.args.pass.now c.purge_url.new.pass (ap (λ xs. get_or xs 7 Free) c.purge_url.ensures.served.same ∙ c.requires.ready.free) (c.purge_url.ensures.leaves 7)

pub returns-in-Purge-clause-holds : goal.returns-in-Purge-clause-holds
returns-in-Purge-clause-holds g c kept h = holds_still g.C.Cell.tells g.C.Cell.state shared_of c.args.store.now record { writes = c.requests_keep_other_tabs.ensures.writes c.args.store.now; reads = c.requests_keep_other_tabs.ensures.reads c.args.store.now } c.args.pass.now c.purge_url.new.pass (c.purge_url.ensures.leaves 7) kept h

pub returns-in-Wipe-clause-ready : goal.returns-in-Wipe-clause-ready
returns-in-Wipe-clause-ready g c = ready_again g.C.Cell.tells g.C.Cell.state shared_of c.args.store.now c.args.pass.now c.wipe_url.new.pass (ap (λ xs. get_or xs 7 Free) c.wipe_url.ensures.served.same ∙ c.requires.ready.free) (c.wipe_url.ensures.leaves 7)

pub returns-in-Wipe-clause-holds : goal.returns-in-Wipe-clause-holds
returns-in-Wipe-clause-holds g c kept h = holds_still g.C.Cell.tells g.C.Cell.state shared_of c.args.store.now record { writes = c.requests_keep_other_tabs.ensures.writes c.args.store.now; reads = c.requests_keep_other_tabs.ensures.reads c.args.store.now } c.args.pass.now c.wipe_url.new.pass (c.wipe_url.ensures.leaves 7) kept h
