use Rattle.test_forwarding_kit.specs.Shared.{shared_of}
use Rattle.test_forwarding.proofs.Passes.{popped, popped_rest}
use Rattle.test_forwarding.proofs.playing.next_pass.Goals as goal

pub returns-clause-pass : goal.returns-clause-pass
returns-clause-pass g c = popped g.C.Cell.tells g.C.Cell.state shared_of c.args.store.now c.pop.result c.args.passes.now.items c.pop.new.self.items c.requires c.pop.ensures.items

pub returns-clause-passes : goal.returns-clause-passes
returns-clause-passes g c = popped_rest g.C.Cell.tells g.C.Cell.state shared_of c.args.store.now _ c.args.passes.now.items c.pop.new.self.items c.requires c.pop.ensures.items
