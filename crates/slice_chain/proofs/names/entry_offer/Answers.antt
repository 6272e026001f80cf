use Rattle.store_rule.proofs.Quieting.{quiet_step}
use Rattle.slice_chain.proofs.names.entry_offer.Goals as goal

pub returns-clause-quiet : goal.returns-clause-quiet
returns-clause-quiet g c = quiet_step c.load_side.ensures.step tt
