-- The piece that a writing tab logs.
use Rattle.std.specs.Prelude.{ℕ, Bool, unwrap_or}
use Rattle.core_model.specs.declared.tab.Writer.{Writer}
use Rattle.core_model.specs.declared.view.LoggedPiece.{LoggedPiece}
use Rattle.core_model.specs.CellMoves.{piece_of}
use Rattle.core_table.specs.declared.content.Content.{Content}

-- as it is logged for this slot, where n pieces were logged before
abbrev pub logged_piece : Writer Content → (slot : ℕ) → Bool → (n : ℕ) → LoggedPiece
logged_piece w slot durable n = record {
  number = n;
  anchor = w.anchor;
  key0 = unwrap_or w.key0 0;
  key1 = unwrap_or w.key1 0;
  slot = slot;
  is_durable = durable;
  piece = piece_of w;
}
