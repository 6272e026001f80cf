-- The complete entries of contents that are told by names.
use Rattle.std.specs.Prelude.{◌≡◌, ◌⊎◌, ◌+◌, ◌<◌, ◌∷◌, ◌++◌, [], ℕ, All, List}
use Rattle.std.specs.Int.{to_le_bytes, w64}
use Rattle.link_word.specs.declared.link.Link.{Link}
use Rattle.link_word.specs.declared.link.Link.TheVariants.{Last}
use Rattle.rebuild_model.specs.declared.found.Found.{Found}
use Rattle.rebuild_model.specs.declared.image.FileImage.{FileImage}
use Rattle.rebuild_model.specs.Entry.{Entry, IsComplete, found_of}
use Rattle.core_model.specs.declared.view.LoggedPiece.{LoggedPiece}
use Rattle.core_model.specs.Chains.{link_to}
use Rattle.named_rebuild.specs.declared.contents.FirstContent.{FirstContent}
use Rattle.named_rebuild.specs.declared.contents.FirstContent.TheVariants.{File, Logged}
use Rattle.named_rebuild.specs.Contents.{content_at}

-- the key that has these halves
abbrev pub key_of_halves : ℕ → ℕ → List ℕ
key_of_halves key0 key1 = to_le_bytes w64 key0 ++ to_le_bytes w64 key1

-- the piece is that for a place of the entry whose first piece is the other one
pub record IsPart (head l : LoggedPiece) (place : ℕ) : Type 0 where
  pub version : l.piece.version ≡ head.piece.version
  pub key0 : l.key0 ≡ head.key0
  pub key1 : l.key1 ≡ head.key1
  pub first : l.piece.first ≡ head.piece.first
  pub place_is : l.piece.place ≡ place

-- the slot holds such a piece, with this link
pub record IsPieceAt (contents : List FirstContent) (head : LoggedPiece) (place slot : ℕ) (link : Link) : Type 0 where
  pub piece : LoggedPiece
  pub there : content_at contents slot ≡ Logged piece
  pub part : IsPart head piece place
  pub link_is : piece.piece.next ≡ link

-- these slots hold the pieces of the entry from a place on: each names the slot of the next one, and the last is its last one
abbrev pub ArePieces : List FirstContent → LoggedPiece → ℕ → List ℕ → Type 0
ArePieces contents head place [] = Unit {0}
ArePieces contents head place (s ∷ rest) = IsPieceAt contents head place s (link_to rest Last) × ArePieces contents head (place + 1) rest

-- the entry is complete in the first file, and all its slots hold what the file has
pub record IsFileEntry (file : FileImage) (contents : List FirstContent) (f : Found) : Type 0 where
  pub entry : Entry
  pub complete : IsComplete file.slot file.slots entry
  pub told : f ≡ found_of entry
  pub stays : All (λ s. content_at contents s ≡ File) entry.chain

-- The entry has all its pieces: one that stands in the slot that it names as the first, the others behind it, and a last one. Their version
-- is above 0, as in a sane header. Its name is its key.
pub record IsPieceEntry (contents : List FirstContent) (f : Found) : Type 0 where
  pub head : LoggedPiece
  pub there : content_at contents f.first ≡ Logged head
  pub first_is : head.piece.first ≡ f.first
  pub some_version : 0 < head.piece.version
  pub behind : List ℕ
  pub begins : f.chain ≡ f.first ∷ behind
  pub pieces : ArePieces contents head 0 (f.first ∷ behind)
  pub version_is : f.version ≡ head.piece.version
  pub key_is : f.key ≡ key_of_halves head.key0 head.key1
  pub url_is : f.url ≡ []
  pub length_is : f.length ≡ 0

abbrev pub IsNamedEntry : FileImage → List FirstContent → Found → Type 0
IsNamedEntry file contents f = IsFileEntry file contents f ⊎ IsPieceEntry contents f

-- one that begins at a slot, or none
pub record IsFoundAt (file : FileImage) (contents : List FirstContent) (first : ℕ) (f : Found) : Type 0 where
  pub entry : IsNamedEntry file contents f
  pub begins : f.first ≡ first

abbrev pub HasNoneFrom : FileImage → List FirstContent → ℕ → Type 0
HasNoneFrom file contents first = (f : Found) → IsNamedEntry file contents f → f.first ≡ first → ⊥
