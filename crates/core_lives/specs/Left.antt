-- What a crash may leave of a life, as bytes, where each offer is a response.
use Rattle.std.specs.Prelude.{◌≡◌, ◌↔◌, ◌+◌, ◌<◌, ℕ, Contains, List, length, replicate}
use Rattle.link_word.specs.declared.link.Link.TheVariants.{Last}
use Rattle.store_key.specs.Anchor.{anchor_of}
use Rattle.store_key.specs.Key.{key_of}
use Rattle.store_key.specs.Url.{IsUrl}
use Rattle.rebuild_model.specs.declared.image.FileImage.{FileImage}
use Rattle.rebuild_model.specs.Image.{image_at}
use Rattle.entry_cut.specs.Content.{LeavesRoom, count}
use Rattle.core_model.specs.declared.tab.Cell.{Cell}
use Rattle.core_model.specs.declared.view.LoggedPiece.{LoggedPiece}
use Rattle.core_model.specs.declared.view.Sight.TheVariants as sight
use Rattle.core_model.specs.Cells.{IsCell}
use Rattle.core_log.specs.Seen.{IsSeen}
use Rattle.core_table.specs.declared.content.Content.{Content}
use Rattle.core_table.specs.declared.content.Content.TheVariants as content
use Rattle.core_table.specs.Machine.{Machine, state_of}
use Rattle.crash_entries.specs.Parts.{Offers, bytes_of, cut_of}
use Rattle.crash_laws.specs.Left.{logged_part, part_of}
use Rattle.named_rebuild.specs.declared.contents.FirstContent.{FirstContent}
use Rattle.named_rebuild.specs.Contents.{content_at}
use Rattle.named_bytes.specs.Bytes.{bytes_in}

-- the bytes of a content of a cell, where the slots held these when the core was opened
abbrev pub content_bytes : FileImage → Offers → List FirstContent → Content → List ℕ
content_bytes file o first (content.Opened s) = bytes_in file o s (content_at first s)
content_bytes file o first (content.Offered p) = bytes_of file.slot o (part_of 0 0 p)
content_bytes file o first content.Blank = replicate file.slot 0

-- each slot has one of the contents that a crash may leave in its cell
pub record MayBeLeft (file : FileImage) (o : Offers) (first : List FirstContent) (m : Machine) (images : List (List ℕ)) : Type 0 where
  pub many : length images ≡ m.slots
  pub each : (s : ℕ) → s < m.slots → (c : Cell Content) × IsCell (state_of m) s c × ((x : Content) × Contains c.possible x × (image_at images s ≡ content_bytes file o first x))

-- A piece keeps to its offer, which has a good URL that leaves room in a slot and has the anchor of the piece, and it is the last piece exactly
-- where it is the last one of the offer's content.
pub record KeepsToOffer (file : FileImage) (o : Offers) (anchors : ℕ) (l : LoggedPiece) : Type 0 where
  pub url : IsUrl (o.url l.piece.offer)
  pub short : LeavesRoom file.slot (o.url l.piece.offer)
  pub anchor_is : anchor_of (key_of (o.url l.piece.offer)) anchors ≡ l.anchor
  pub last : (l.piece.next ≡ Last) ↔ (l.piece.place + 1 ≡ count (cut_of file.slot o (logged_part l)))

-- each piece that was logged since the last opening does
abbrev pub IsFaithful : FileImage → Offers → Machine → Type 0
IsFaithful file o m = (l : LoggedPiece) → IsSeen m.views (sight.Logged l) → KeepsToOffer file o m.anchors l
