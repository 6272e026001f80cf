use Rattle.store_rule.proofs.Quieting.{quiet_step, quiet_then}
use Rattle.slice_chain.proofs.names.entry_key.Goals as goal

pub returns-clause-quiet : goal.returns-clause-quiet
returns-clause-quiet g c = quiet_then (quiet_step c.load_side-front.ensures.step tt) (quiet_step c.load_side-back.ensures.step tt)
