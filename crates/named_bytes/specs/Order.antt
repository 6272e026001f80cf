-- Contents whose pieces are those of a store that keeps to its offers.
use Rattle.std.specs.Prelude.{◌≡◌, ◌+◌, ◌<◌, ℕ, List, length}
use Rattle.link_word.specs.declared.link.Link.TheVariants.{Next}
use Rattle.store_key.specs.Key.{key_of}
use Rattle.rebuild_model.specs.declared.image.FileImage.{FileImage}
use Rattle.rebuild_model.specs.Image.{IsSaneAt, header_at}
use Rattle.entry_cut.specs.Content.{count}
use Rattle.core_model.specs.declared.view.LoggedPiece.{LoggedPiece}
use Rattle.crash_entries.specs.Parts.{KeepsTo, Offers, cut_of}
use Rattle.crash_laws.specs.Left.{logged_part}
use Rattle.named_rebuild.specs.declared.contents.FirstContent.{FirstContent}
use Rattle.named_rebuild.specs.declared.contents.FirstContent.TheVariants.{File, Logged}
use Rattle.named_rebuild.specs.Contents.{content_at}
use Rattle.named_rebuild.specs.Entries.{key_of_halves}

-- The piece keeps to its offer, and is one of the offer's content. It has the key of the offer's URL, and was logged for this slot. It names its own
-- slot as the first at place 0 alone.
pub record IsPieceOf (file : FileImage) (o : Offers) (anchors slot : ℕ) (l : LoggedPiece) : Type 0 where
  pub keeps : KeepsTo file.slot anchors (length file.slots) o (logged_part l)
  pub inside : l.piece.place < count (cut_of file.slot o (logged_part l))
  pub key_is : key_of_halves l.key0 l.key1 ≡ key_of (o.url l.piece.offer)
  pub slot_is : l.slot ≡ slot
  pub begins : l.piece.first ≡ l.slot → l.piece.place ≡ 0

-- what holds of two pieces of one version: they are of one entry, in order
pub record AreOfOne (l m : LoggedPiece) : Type 0 where
  pub key0 : l.key0 ≡ m.key0
  pub key1 : l.key1 ≡ m.key1
  pub offer : l.piece.offer ≡ m.piece.offer
  pub first : l.piece.first ≡ m.piece.first
  pub behind : l.piece.next ≡ Next m.slot → m.piece.place ≡ l.piece.place + 1

-- Each piece that a slot holds is one of its offer, pieces of one version are of one entry, and each is newer than all sane slots that hold
-- what the file has.
pub record AreInOrder (file : FileImage) (o : Offers) (anchors : ℕ) (contents : List FirstContent) : Type 0 where
  pub pieces : (s : ℕ) (l : LoggedPiece) → content_at contents s ≡ Logged l → IsPieceOf file o anchors s l
  pub one : (s t : ℕ) (l m : LoggedPiece) → content_at contents s ≡ Logged l → content_at contents t ≡ Logged m → l.piece.version ≡ m.piece.version → AreOfOne l m
  pub newer : (s t : ℕ) (l : LoggedPiece) → content_at contents s ≡ File → IsSaneAt file.slot file.slots s → content_at contents t ≡ Logged l → (header_at file.slots s).version < l.piece.version
