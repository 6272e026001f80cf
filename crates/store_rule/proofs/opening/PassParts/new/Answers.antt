use Rattle.std.proofs.Common.{subst}
use Rattle.tab_states.specs.Hands.{AreAllHands}
use Rattle.store_rule.proofs.opening.PassParts.new.Goals as goal

pub returns-clause-hands : goal.returns-clause-hands
returns-clause-hands g c = (c.in_ok-hands.ensures.many, subst (λ z. AreAllHands z c.in_ok-hands.hands.items) c.in_ok-pool.ensures.size.1 c.in_ok-hands.ensures.hands)
