use Rattle.plain_laws.proofs.Held.{held_along, held_at_the_end}
use Rattle.plain_laws.proofs.laws.held_slots_are_there.Goals as goal

pub returns : goal.returns
returns c = record { along = held_along; left = held_at_the_end }
