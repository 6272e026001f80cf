-- What slots hold when a store is opened, told by names.
use Rattle.std.specs.Prelude.{◌≡◌, ◌<◌, ◌≤◌, ℕ, List, length, slice_index_or}
use Rattle.lock_word.specs.Words.{version_limit}
use Rattle.core_model.specs.declared.view.LoggedPiece.{LoggedPiece}
use Rattle.named_rebuild.specs.declared.contents.FirstContent.{FirstContent}
use Rattle.named_rebuild.specs.declared.contents.FirstContent.TheVariants.{Blank, Logged}

-- what a slot holds; one behind the last is blank
abbrev pub content_at : List FirstContent → ℕ → FirstContent
content_at contents s = slice_index_or contents s Blank

-- a piece of a store with so many slots
pub record IsPieceWithin (slots : ℕ) (l : LoggedPiece) : Type 0 where
  pub version_to : l.piece.version ≤ version_limit
  pub place : l.piece.place < slots

-- these are the contents of so many slots
pub record AreContents (slots : ℕ) (contents : List FirstContent) : Type 0 where
  pub many : length contents ≡ slots
  pub pieces : (s : ℕ) (l : LoggedPiece) → content_at contents s ≡ Logged l → IsPieceWithin slots l
