use Rattle.test_forwarding_kit.specs.Shared.{shared_of}
use Rattle.test_forwarding_kit.proofs.Holding.{ready_still}
use Rattle.test_forwarding_kit.proofs.serving.serve_line.Goals as goal

pub returns-in-Ok-clause-ready : goal.returns-in-Ok-clause-ready
returns-in-Ok-clause-ready g c = ready_still g.C.Cell.tells g.C.Cell.state shared_of c.args.store.now c.args.pass.now c.serve_on_tab.new.pass c.requires.ready c.serve_on_tab.ensures.leaves

pub returns-in-Err-clause-ready : goal.returns-in-Err-clause-ready
returns-in-Err-clause-ready g c = ready_still g.C.Cell.tells g.C.Cell.state shared_of c.args.store.now c.args.pass.now c.serve_on_tab.new.pass c.requires.ready c.serve_on_tab.ensures.leaves
