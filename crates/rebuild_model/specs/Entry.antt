-- The complete entries of a file.
use Rattle.std.specs.Prelude.{◌≡◌, ℕ, ◌+◌, pos, negsuc, List, [], ◌∷◌, length, take, drop, sum_by, All, nat_eq}
use Rattle.std.specs.List.{flat_map, IsDistinct}
use Rattle.slot_cell.specs.declared.header.TheConstants.{HEADER_SIZE}
use Rattle.swap_meta.specs.Meta.{Spells}
use Rattle.store_key.specs.Key.{key_of}
use Rattle.store_key.specs.Url.{IsUrl}
use Rattle.rebuild_model.specs.Image.{header_at, key_at, payload_at, IsSaneAt, BelongsTo, Links}
use Rattle.rebuild_model.specs.declared.found.Found.{Found}

-- an entry: its slots in order, what they say of it, and the body that they hold
pub record Entry : Type 0 where
  pub first : ℕ
  pub version : ℕ
  pub key : List ℕ
  pub url : List ℕ
  pub chain : List ℕ
  pub body : List ℕ

-- what a scan tells of an entry
abbrev pub found_of : Entry → Found
found_of e = record { first = e.first; version = e.version; key = e.key; url = e.url; length = length e.body; chain = e.chain }

-- P holds of each slot but the last
abbrev pub AllButLast : (ℕ → Type 0) → List ℕ → Type 0
AllButLast P [] = Unit {0}
AllButLast P (s ∷ []) = Unit {0}
AllButLast P (s ∷ t ∷ rest) = P s × AllButLast P (t ∷ rest)

-- P holds of the last slot
abbrev pub OfLast : (ℕ → Type 0) → List ℕ → Type 0
OfLast P [] = ⊥
OfLast P (s ∷ []) = P s
OfLast P (s ∷ t ∷ rest) = OfLast P (t ∷ rest)

-- the chain that begins at slot s: its slots belong to s, no slot comes twice, and it ends
pub record IsChain (slot : ℕ) (images : List (List ℕ)) (s : ℕ) (chain : List ℕ) : Type 0 where
  pub behind : List ℕ
  pub begins : chain ≡ s ∷ behind
  pub belong : All (BelongsTo slot images s) chain
  pub linked : Links images chain
  pub once : IsDistinct nat_eq chain

-- the payloads of the slots, joined
abbrev pub content_of : List (List ℕ) → List ℕ → List ℕ
content_of images chain = flat_map (payload_at images) chain

-- this entry is complete in the file: it has a chain, all payloads but the last are full, the last slot has the size of
-- the whole, and in front stands metadata with a URL and that URL's key, which is the slots' too
pub record IsComplete (slot : ℕ) (images : List (List ℕ)) (e : Entry) : Type 0 where
  pub chain : IsChain slot images e.first e.chain
  pub full : AllButLast (λ s. (header_at images s).payload_size + HEADER_SIZE ≡ slot) e.chain
  pub whole : OfLast (λ s. (header_at images s).entry_size ≡ sum_by (λ t. (header_at images t).payload_size) e.chain) e.chain
  pub size : ℕ
  pub meta : Spells (take size (payload_at images e.first)) e.key e.url size
  pub key : e.key ≡ key_at images e.first
  pub key_of_url : e.key ≡ key_of e.url
  pub url : IsUrl e.url
  pub version : e.version ≡ (header_at images e.first).version
  pub body : e.body ≡ drop size (content_of images e.chain)

-- the file stores this body under this URL
pub record IsStored (slot : ℕ) (images : List (List ℕ)) (url body : List ℕ) : Type 0 where
  pub entry : Entry
  pub complete : IsComplete slot images entry
  pub url_is : entry.url ≡ url
  pub body_is : entry.body ≡ body
