use Rattle.std.proofs.Common.{List, sym, subst, ◌∙◌}
use Rattle.rebuild_model.specs.declared.rebuilt.Rebuilt.{Rebuilt}
use Rattle.core_state.specs.Opened.{IsOpenedWith}
use Rattle.named_rebuild.specs.declared.contents.FirstContent.{FirstContent}
use Rattle.named_rebuild.specs.Keeping.{IsRebuiltOfNames}
use Rattle.core_lives.specs.Life.{lived_of}
use Rattle.core_lives.proofs.Living.{opens_anew}
use Rattle.core_lives.proofs.life.Life.rebuild.Goals as goal

pub invariant_of-self-in-Ok : goal.invariant_of-self-in-Ok
invariant_of-self-in-Ok c = opens_anew (lived_of c.self.inside) c.in-Ok.core c.in-Some.left c.take.new.self c.self.invariant (sym c.take.ensures.value ∙ c.in-Some.is) c.take.ensures.after
    (subst (λ (xs : List FirstContent). (r : Rebuilt) × IsRebuiltOfNames c.self.inside.file xs c.self.inside.core.anchors r
    × IsOpenedWith r c.self.inside.core.anchors c.self.inside.core.slots c.self.inside.core.passes c.in-Ok.core) c.as_slice.ensures c.in-Ok.ensures.reopened)

pub returns-in-Ok-clause-sound : goal.returns-in-Ok-clause-sound
returns-in-Ok-clause-sound c = opens_anew (lived_of c.self.inside) c.in-Ok.core c.in-Some.left c.take.new.self c.self.invariant (sym c.take.ensures.value ∙ c.in-Some.is) c.take.ensures.after
    (subst (λ (xs : List FirstContent). (r : Rebuilt) × IsRebuiltOfNames c.self.inside.file xs c.self.inside.core.anchors r
    × IsOpenedWith r c.self.inside.core.anchors c.self.inside.core.slots c.self.inside.core.passes c.in-Ok.core) c.as_slice.ensures c.in-Ok.ensures.reopened)
