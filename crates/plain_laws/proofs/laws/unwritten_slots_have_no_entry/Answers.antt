use Rattle.plain_laws.proofs.Unwritten.{none_complete}
use Rattle.plain_laws.proofs.laws.unwritten_slots_have_no_entry.Goals as goal

pub returns : goal.returns
returns c slot images e zeros h = none_complete slot images zeros e h
