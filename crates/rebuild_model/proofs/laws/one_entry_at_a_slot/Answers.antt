use Rattle.rebuild_model.proofs.Same.{same_entry}
use Rattle.rebuild_model.proofs.laws.one_entry_at_a_slot.Goals as goal

pub returns : goal.returns
returns c slot images e f p q same = same_entry c.no_spelling_is_a_prefix.ensures.same slot images e f p q same
