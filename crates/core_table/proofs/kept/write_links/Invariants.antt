use Rattle.std.proofs.Common.{◌≡◌, ◌<◌, All, length}
use Rattle.core_table.specs.Kept.{chained}
use Rattle.core_table.proofs.kept.write_links.Given as goal

abbrev pub invariant-slots : goal.invariant-slots
invariant-slots l = record { same : chained l.links l.left ≡ chained l.fn.links l.chain; within : All (λ s. s < length l.links) l.left }

abbrev pub decreases-slots : goal.decreases-slots
decreases-slots l = length l.left
