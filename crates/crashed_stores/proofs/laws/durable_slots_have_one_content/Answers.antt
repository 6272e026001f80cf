use Rattle.crashed_stores.proofs.Durable.{one_content}
use Rattle.crashed_stores.proofs.laws.durable_slots_have_one_content.Goals as goal

pub returns : goal.returns
returns c g s a place slot cell x rule lt entry at is among = one_content g s rule a lt entry place slot cell x at is among
