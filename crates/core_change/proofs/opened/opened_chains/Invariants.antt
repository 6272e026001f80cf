use Rattle.std.proofs.Common.{◌≡◌, length}
use Rattle.store_key.specs.Anchor.{anchor_of}
use Rattle.core_table.specs.Kept.{placed, kept_chain, opened_chains}
use Rattle.core_change.proofs.opened.opened_chains.Given as goal

abbrev pub invariant-winners : goal.invariant-winners
invariant-winners l = record {
  same : placed (λ f. anchor_of f.key l.anchors) kept_chain l.chains.items l.left ≡ opened_chains l.winners l.anchors;
  long : length l.chains.items ≡ l.anchors;
}

abbrev pub decreases-winners : goal.decreases-winners
decreases-winners l = length l.left
