use Rattle.std.proofs.Common.{◌-◌, length, vec_len}
use Rattle.plain_rebuild.proofs.Walking.{Walked}
use Rattle.plain_rebuild.proofs.plain.chain_at.Given as goal

abbrev pub invariant-walk : goal.invariant-walk
invariant-walk l = Walked l.slot l.images l.first l.chain.items l.at

abbrev pub decreases-walk : goal.decreases-walk
decreases-walk l = length l.images - vec_len l.chain
