use Rattle.std.proofs.Common.{◌≡◌, ℕ, ◌<◌, List, length, All}
use Rattle.rebuild_model.specs.Image.{IsFile}
use Rattle.rock_rebuild.specs.Kept.{AreHeaders, AreHeads}
use Rattle.rock_rebuild.specs.Left.{AreLeft}
use Rattle.rock_rebuild.specs.Candidates.{AreFoundAs}
use Rattle.rock_rebuild.proofs.candidates.candidates_of.Given as goal

abbrev pub invariant-loop-first : goal.invariant-loop-first
invariant-loop-first l =
    ((images : List (List ℕ)) → IsFile l.slot images → AreHeaders (length images) l.slot images l.initial.table → AreHeads (length images) l.slot images l.urls l.heads
    → AreLeft l.slot images l.first l.table × AreFoundAs l.anchors l.slot images l.first l.candidates.items)
    × (length l.table ≡ length l.initial.table)
    × All (λ c. c.anchor < l.anchors) l.candidates.items
