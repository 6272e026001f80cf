use Rattle.std.proofs.Common.{refl, ◌∙◌}
use Rattle.tab_states.proofs.AtDesks.{buffer_there, set_buffer}
use Rattle.tab_states.proofs.desks.Desks.buffer_mut.Goals as goal

pub returns : goal.returns
returns c = let d = c.desk_mut-desk in (
  (refl, λ bytes. set_buffer c.args.self.now c.args.at d.result.now bytes d.ensures.value),
  record { writes_back = tt; value = c.buffer_mut.ensures.value ∙ buffer_there c.args.self.now c.args.at d.result.now d.ensures.value },
)
