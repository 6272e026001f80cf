use Rattle.std.proofs.Common.{◌∙◌}
use Rattle.rock_run.specs.Offered.{offers_of}
use Rattle.store_rule.specs.Passes.{basis}
use Rattle.test_wiping.proofs.Passes.{keeps_number}
use Rattle.test_wiping.proofs.Resting.{rests_again}
use Rattle.test_wiping.proofs.serving.wipe_for.Goals as goal

pub returns-clause-may : goal.returns-clause-may
returns-clause-may g c = rests_again g.C.Cell.tells g.C.Cell.state offers_of c.args.store.now c.args.pass.now c.purge_durable-answer.new.pass c.requires.may c.purge_durable-answer.ensures.others c.purge_durable-answer.ensures.free
    (keeps_number (basis g.C.Cell.tells g.C.Cell.state offers_of c.args.store.now) _ _ _ c.purge_durable-answer.result c.purge_durable-answer.ensures.ok c.purge_durable-answer.ensures.err ∙ c.requires.number)

pub returns-clause-number : goal.returns-clause-number
returns-clause-number g c = keeps_number (basis g.C.Cell.tells g.C.Cell.state offers_of c.args.store.now) _ _ _ c.purge_durable-answer.result c.purge_durable-answer.ensures.ok c.purge_durable-answer.ensures.err ∙ c.requires.number
