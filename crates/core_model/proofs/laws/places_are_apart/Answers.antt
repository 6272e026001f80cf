use Rattle.core_model.proofs.Places.{apart, within, each_is_of}
use Rattle.core_model.proofs.laws.places_are_apart.Goals as goal

pub returns-clause-apart : goal.returns-clause-apart
returns-clause-apart g c = apart

pub returns-clause-within : goal.returns-clause-within
returns-clause-within g c = within

pub returns-clause-each : goal.returns-clause-each
returns-clause-each g c = each_is_of
