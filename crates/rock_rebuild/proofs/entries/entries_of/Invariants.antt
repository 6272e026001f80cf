use Rattle.std.proofs.Common.{◌≡◌, ℕ, List, length}
use Rattle.rebuild_model.specs.Image.{IsFile}
use Rattle.rock_rebuild.specs.Kept.{AreHeaders, AreHeads}
use Rattle.rock_rebuild.specs.Left.{AreLeft}
use Rattle.rock_rebuild.specs.Gathered.{AreFound}
use Rattle.rock_rebuild.proofs.entries.entries_of.Given as goal

abbrev pub invariant-loop-first : goal.invariant-loop-first
invariant-loop-first l =
    ((images : List (List ℕ)) → IsFile l.slot images → AreHeaders (length images) l.slot images l.initial.table → AreHeads (length images) l.slot images l.urls l.heads
    → AreLeft l.slot images l.first l.table × AreFound l.slot images l.first l.found.items)
    × (length l.table ≡ length l.initial.table)
