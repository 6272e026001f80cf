use Rattle.plain_laws.proofs.Unwritten.{unwritten}
use Rattle.plain_laws.proofs.laws.unwritten_slots_open_fresh_stores.Goals as goal

pub returns : goal.returns
returns c slot images anchors p zeros h = unwritten slot images zeros anchors p h
