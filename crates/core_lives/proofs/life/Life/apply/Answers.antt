use Rattle.std.proofs.Common.{rules, subst}
use Rattle.std.specs.Prelude.{IfOk}
use Rattle.core_state.specs.declared.act.Step.{Step}
use Rattle.core_state.specs.Applied.{Applies}
use Rattle.core_lives.specs.Life.{lived_of}
use Rattle.core_lives.proofs.Living.{act_keeps}
use Rattle.core_lives.proofs.life.Life.apply.Goals as goal

pub invariant_of-self : goal.invariant_of-self
invariant_of-self c = act_keeps (lived_of c.self.inside) c.apply.new.self c.in-Act.act c.apply.result c.self.invariant (search rules)
    (subst (λ (s : Step). IfOk c.apply.result (λ n. Applies c.self.inside.core s n c.apply.new.self)) c.in-Act.is c.apply.ensures.made) c.apply.ensures.unchanged c.apply.ensures.same_store

pub returns-else-is_some-clause-sound : goal.returns-else-is_some-clause-sound
returns-else-is_some-clause-sound c = act_keeps (lived_of c.self.inside) c.apply.new.self c.in-Act.act c.apply.result c.self.invariant (search rules)
    (subst (λ (s : Step). IfOk c.apply.result (λ n. Applies c.self.inside.core s n c.apply.new.self)) c.in-Act.is c.apply.ensures.made) c.apply.ensures.unchanged c.apply.ensures.same_store
