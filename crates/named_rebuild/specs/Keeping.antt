-- What a rebuild keeps of contents that are told by names.
use Rattle.std.specs.Prelude.{◌≡◌, ◌⊎◌, ◌+◌, ◌<◌, ◌≤◌, ℕ, All, Contains, List, MatchOption, Option, length, map, slice_index}
use Rattle.std.specs.List.Sorted.{IsStrictlyIncreasing}
use Rattle.store_key.specs.Anchor.{anchor_of}
use Rattle.rebuild_model.specs.declared.found.Found.{Found}
use Rattle.rebuild_model.specs.declared.image.FileImage.{FileImage}
use Rattle.rebuild_model.specs.declared.rebuilt.Rebuilt.{Rebuilt}
use Rattle.rebuild_model.specs.Image.{IsSaneAt, header_at}
use Rattle.core_model.specs.declared.view.LoggedPiece.{LoggedPiece}
use Rattle.named_rebuild.specs.declared.contents.FirstContent.{FirstContent}
use Rattle.named_rebuild.specs.declared.contents.FirstContent.TheVariants.{File, Logged}
use Rattle.named_rebuild.specs.Contents.{content_at}
use Rattle.named_rebuild.specs.Entries.{IsNamedEntry}

-- the slot holds a piece of this version, which is above 0, as in a sane header
pub record IsOfPiece (contents : List FirstContent) (slot version : ℕ) : Type 0 where
  pub piece : LoggedPiece
  pub there : content_at contents slot ≡ Logged piece
  pub some : 0 < piece.piece.version
  pub version_is : version ≡ piece.piece.version

-- a slot shows this version: by the header that it has in the first file, where that is sane, or by its piece
abbrev pub ShowsVersion : FileImage → List FirstContent → (slot version : ℕ) → Type 0
ShowsVersion file contents s version =
    ((content_at contents s ≡ File) × IsSaneAt file.slot file.slots s × (version ≡ (header_at file.slots s).version))
    ⊎ IsOfPiece contents s version

-- the greatest version that a slot shows, or 0 where none shows one
pub record IsGreatestShown (file : FileImage) (contents : List FirstContent) (greatest : ℕ) : Type 0 where
  pub above : (s version : ℕ) → s < length contents → ShowsVersion file contents s version → version ≤ greatest
  pub there : 0 < greatest → (s : ℕ) × (s < length contents) × ShowsVersion file contents s greatest

-- of the complete entries at an anchor, one of the greatest version, and of those one that begins first
pub record IsBestAt (file : FileImage) (contents : List FirstContent) (anchors anchor : ℕ) (f : Found) : Type 0 where
  pub entry : IsNamedEntry file contents f
  pub at : anchor_of f.key anchors ≡ anchor
  pub best : (g : Found) → IsNamedEntry file contents g → anchor_of g.key anchors ≡ anchor → (g.version < f.version) ⊎ ((g.version ≡ f.version) × (f.first ≤ g.first))

abbrev pub HasNoneAt : FileImage → List FirstContent → (anchors anchor : ℕ) → Type 0
HasNoneAt file contents anchors anchor = (f : Found) → IsNamedEntry file contents f → anchor_of f.key anchors ≡ anchor → ⊥

-- the same of those that begin before a slot
pub record IsBestBefore (file : FileImage) (contents : List FirstContent) (anchors anchor bound : ℕ) (f : Found) : Type 0 where
  pub entry : IsNamedEntry file contents f
  pub at : anchor_of f.key anchors ≡ anchor
  pub before : f.first < bound
  pub best : (g : Found) → IsNamedEntry file contents g → anchor_of g.key anchors ≡ anchor → g.first < bound
      → (g.version < f.version) ⊎ ((g.version ≡ f.version) × (f.first ≤ g.first))

abbrev pub HasNoneBefore : FileImage → List FirstContent → (anchors anchor bound : ℕ) → Type 0
HasNoneBefore file contents anchors anchor bound = (f : Found) → IsNamedEntry file contents f → anchor_of f.key anchors ≡ anchor → f.first < bound → ⊥

abbrev pub BestBefore : FileImage → List FirstContent → (anchors anchor bound : ℕ) → Option Found → Type 0
BestBefore file contents anchors anchor bound best = MatchOption best (HasNoneBefore file contents anchors anchor bound) (IsBestBefore file contents anchors anchor bound)

-- these are the entries that are kept at anchors below `bound`, in order of their anchors
pub record AreBest (file : FileImage) (contents : List FirstContent) (anchors bound : ℕ) (winners : List Found) : Type 0 where
  pub won : (f : Found) → Contains winners f → IsBestAt file contents anchors (anchor_of f.key anchors) f
  pub ordered : IsStrictlyIncreasing (map (λ f. anchor_of f.key anchors) winners)
  pub below : All (λ a. a < bound) (map (λ f. anchor_of f.key anchors) winners)
  pub every : (f : Found) → IsNamedEntry file contents f → anchor_of f.key anchors < bound → Contains (map (λ g. anchor_of g.key anchors) winners) (anchor_of f.key anchors)

-- What a rebuild keeps: the best entry of each anchor, in order of the anchors, the owner of each slot, and the greatest version shown.
pub record IsRebuiltOfNames (file : FileImage) (contents : List FirstContent) (anchors : ℕ) (r : Rebuilt) : Type 0 where
  pub won : (f : Found) → Contains r.winners f → IsBestAt file contents anchors (anchor_of f.key anchors) f
  pub ordered : IsStrictlyIncreasing (map (λ f. anchor_of f.key anchors) r.winners)
  pub every : (f : Found) → IsNamedEntry file contents f → Contains (map (λ g. anchor_of g.key anchors) r.winners) (anchor_of f.key anchors)
  pub one_a_slot : length r.owner ≡ length contents
  pub owned : (f : Found) (s : ℕ) → Contains r.winners f → Contains f.chain s → slice_index r.owner s ≡ anchor_of f.key anchors + 1
  pub free : (s : ℕ) → ((f : Found) → Contains r.winners f → Contains f.chain s → ⊥) → slice_index r.owner s ≡ 0
  pub greatest : IsGreatestShown file contents r.greatest
