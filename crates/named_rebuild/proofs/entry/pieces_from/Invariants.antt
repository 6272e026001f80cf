use Rattle.std.proofs.Common.{◌-◌, length}
use Rattle.named_rebuild.proofs.Walking.{Walked}
use Rattle.named_rebuild.proofs.entry.pieces_from.Given as goal

abbrev pub invariant-pieces : goal.invariant-pieces
invariant-pieces l = Walked l.contents l.head l.first l.chain.items l.at l.place

abbrev pub decreases-pieces : goal.decreases-pieces
decreases-pieces l = length l.contents - l.place
