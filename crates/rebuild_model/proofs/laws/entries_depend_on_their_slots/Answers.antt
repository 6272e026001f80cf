use Rattle.rebuild_model.proofs.Depends.{complete_in}
use Rattle.rebuild_model.proofs.laws.entries_depend_on_their_slots.Goals as goal

pub returns : goal.returns
returns c slot images others e many same whole = complete_in slot images others many e same whole
