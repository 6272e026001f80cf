use Rattle.std.proofs.Common.{◌∙◌}
use Rattle.tab_states.specs.Desks.{as_many}
use Rattle.store_rule.proofs.store.Pass.buffer_mut.Goals as goal

pub invariant_of-self-lent : goal.invariant_of-self-lent
invariant_of-self-lent g c = let p = c.args.self.now in λ bytes. (p.one, (p.nine, (p.nine_left, (as_many p.desks c.args.tab bytes ∙ p.nine_desks, (p.at_hand, tt)))))
