use Rattle.std.proofs.Common.{◌≡◌, ◌*◌, length}
use Rattle.store_key.specs.Anchor.{anchor_of}
use Rattle.core_table.specs.Kept.{placed, entry_word, column_index, with_column}
use Rattle.core_table.proofs.kept.write_column.Given as goal

abbrev pub invariant-winners : goal.invariant-winners
invariant-winners l = record {
  same : placed (λ f. column_index l.column (anchor_of f.key l.anchors)) (entry_word l.column) l.words l.left ≡ with_column l.column l.winners l.anchors l.fn.words;
  long : length l.words ≡ 5 * l.anchors;
}

abbrev pub decreases-winners : goal.decreases-winners
decreases-winners l = length l.left
