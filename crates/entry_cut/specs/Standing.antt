-- The pieces of an entry in the slots of a file.
use Rattle.std.specs.Prelude.{◌≡◌, ℕ, ◌+◌, ◌<◌, ◌≤◌, ◌^◌, pos, negsuc, List, [], ◌∷◌, length, All, nat_eq}
use Rattle.std.specs.List.{IsDistinct}
use Rattle.rebuild_model.specs.Entry.{Entry}
use Rattle.rebuild_model.specs.Image.{image_at}
use Rattle.slot_cell.specs.declared.header.TheConstants.{GREATEST_VERSION}
use Rattle.store_key.specs.Key.{key_of}
use Rattle.store_key.specs.Url.{IsUrl}
use Rattle.entry_cut.specs.Content.{Cut, LeavesRoom, count, image}

-- an entry that a store of so many slots may write
pub record IsWritable (c : Cut) : Type 0 where
  pub url : IsUrl c.url
  pub short : LeavesRoom c.slot c.url
  pub sized : c.slot < 2 ^ 32
  pub version_from : 0 < c.version
  pub version_to : c.version ≤ GREATEST_VERSION

-- from place k on, the pieces stand in these slots, each naming the next one, and the last none
abbrev pub StandFrom : Cut → (images : List (List ℕ)) (k : ℕ) → List ℕ → Type 0
StandFrom c images k [] = ⊥
StandFrom c images k (s ∷ []) = (image_at images s ≡ image c k (negsuc 0)) × (k + 1 ≡ count c)
StandFrom c images k (s ∷ t ∷ rest) = (image_at images s ≡ image c k (pos t)) × StandFrom c images (k + 1) (t ∷ rest)

-- the pieces of the entry stand in these slots of the file, which are different ones, from its first slot on
pub record Stand (c : Cut) (images : List (List ℕ)) (chain : List ℕ) : Type 0 where
  pub behind : List ℕ
  pub begins : chain ≡ c.first ∷ behind
  pub within : All (λ s. s < length images) chain
  pub once : IsDistinct nat_eq chain
  pub pieces : StandFrom c images 0 chain

-- the entry, as a rebuild knows it
abbrev pub entry_of : Cut → List ℕ → Entry
entry_of c chain = record { first = c.first; version = c.version; key = key_of c.url; url = c.url; chain = chain; body = c.body }
