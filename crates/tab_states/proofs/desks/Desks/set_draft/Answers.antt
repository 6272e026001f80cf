use Rattle.std.proofs.Common.{ap, ◌∙◌}
use Rattle.tab_states.specs.Desks.{with_draft_at}
use Rattle.tab_states.proofs.AtDesks.{set_draft}
use Rattle.tab_states.proofs.desks.Desks.set_draft.Goals as goal

pub returns : goal.returns
returns c = set_draft c.self.inside.items.items c.args.at c.index_mut.result.now c.args.draft c.index_mut.ensures.value ∙ ap (λ (ds : _). with_draft_at ds c.args.at c.args.draft) c.self.view_is
