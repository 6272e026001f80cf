use Rattle.std.proofs.Common.{◌≡◌, ℕ, ◌+◌, ◌*◌, ◌≤◌, List, length}
use Rattle.rebuild_model.specs.Image.{IsFile}
use Rattle.rock_rebuild.specs.Left.{AreLeft}
use Rattle.rock_rebuild.proofs.Following.{Followed}
use Rattle.rock_rebuild.proofs.Counting.{left_in}
use Rattle.rock_rebuild.proofs.chain.follow.Given as goal

abbrev pub invariant-walk : goal.invariant-walk
invariant-walk l =
    ((images : List (List ℕ)) → IsFile l.slot images → AreLeft l.slot images l.first l.initial.table → Followed l.slot images l.first l.head l.chain.items l.at l.size l.table)
    × (l.size + 4294967296 * left_in l.table ≤ 4294967296 * left_in l.initial.table)
    × (length l.table ≡ length l.initial.table)
    × (length l.chain.items + left_in l.table ≤ left_in l.initial.table)

abbrev pub decreases-walk : goal.decreases-walk
decreases-walk l = left_in l.table
