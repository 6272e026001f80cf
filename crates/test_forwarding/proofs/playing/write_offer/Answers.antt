use Rattle.test_forwarding_kit.specs.Shared.{shared_of}
use Rattle.test_forwarding_kit.proofs.Holding.{ready_still}
use Rattle.test_forwarding.proofs.playing.write_offer.Goals as goal

pub returns : goal.returns
returns g c = ready_still g.C.Cell.tells g.C.Cell.state shared_of c.args.store.now c.begin_on_tab.new.pass c.add_to_tab-added.new.pass
    (ready_still g.C.Cell.tells g.C.Cell.state shared_of c.args.store.now c.args.pass.now c.begin_on_tab.new.pass c.requires.ready c.begin_on_tab.ensures.leaves) c.add_to_tab-added.ensures.leaves

pub returns-in_err-text : goal.returns-in_err-text
returns-in_err-text g c = ready_still g.C.Cell.tells g.C.Cell.state shared_of c.args.store.now c.begin_on_tab.new.pass c.add_to_tab-added.new.pass
    (ready_still g.C.Cell.tells g.C.Cell.state shared_of c.args.store.now c.args.pass.now c.begin_on_tab.new.pass c.requires.ready c.begin_on_tab.ensures.leaves) c.add_to_tab-added.ensures.leaves
