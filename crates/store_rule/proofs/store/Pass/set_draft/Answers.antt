use Rattle.std.proofs.Common.{ap, length, ◌∙◌}
use Rattle.tab_states.specs.Desks.{as_many_drafted}
use Rattle.store_rule.proofs.store.Pass.set_draft.Goals as goal

pub invariant_of-self : goal.invariant_of-self
invariant_of-self g c = let p = c.args.self.now in record {
  one = p.one;
  nine = p.nine;
  nine_left = p.nine_left;
  nine_desks = ap length c.set_draft.ensures ∙ as_many_drafted p.desks c.args.tab c.args.draft ∙ p.nine_desks;
  at_hand = p.at_hand;
}
