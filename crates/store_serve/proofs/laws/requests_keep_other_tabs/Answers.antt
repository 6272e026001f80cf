use Rattle.std.proofs.Common.{◌∙◌}
use Rattle.store_serve.proofs.Standing.{far, writes_still}
use Rattle.store_serve.proofs.laws.requests_keep_other_tabs.Goals as goal

pub returns-clause-writes : goal.returns-clause-writes
returns-clause-writes g c s p q t j e leaves ne h = writes_still g.C.Cell.tells g.C.Cell.state g.O.Origin.offers s p q t j e leaves ne h

pub returns-clause-reads : goal.returns-clause-reads
returns-clause-reads g c s p q t j e leaves ne h = c.readers_stay.ensures s p q j e h leaves.own (leaves.others j ne (far j h.below)) (leaves.desks j ne (far j h.below)) leaves.keeps

pub returns-clause-free : goal.returns-clause-free
returns-clause-free g c s p q t j leaves ne away h = leaves.others j ne away ∙ h
