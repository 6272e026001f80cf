use Rattle.rebuild_model.proofs.Whole.{rebuilt}
use Rattle.rebuild_model.proofs.laws.winners_and_owners_make_a_rebuild.Goals as goal

pub returns : goal.returns
returns c = rebuilt c.one_entry_at_a_slot.ensures
