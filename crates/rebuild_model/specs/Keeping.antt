-- What the plain program keeps at an anchor, and of which entry a slot is.
use Rattle.std.specs.Prelude.{◌≡◌, ◌⊎◌, ℕ, ◌+◌, ◌<◌, ◌≤◌, List, length, map, Option, MatchOption, Contains, All, slice_index}
use Rattle.std.specs.List.Sorted.{IsStrictlyIncreasing}
use Rattle.store_key.specs.Anchor.{anchor_of}
use Rattle.rebuild_model.specs.Entry.{Entry, IsComplete, found_of}
use Rattle.rebuild_model.specs.Rebuilt.{IsWinner}
use Rattle.rebuild_model.specs.declared.found.Found.{Found}

-- no complete entry stands at this anchor
abbrev pub HasNoneAt : ℕ → List (List ℕ) → ℕ → ℕ → Type 0
HasNoneAt slot images anchors anchor = (e : Entry) → IsComplete slot images e → anchor_of e.key anchors ≡ anchor → ⊥

-- this one is kept at it
pub record IsKept (slot : ℕ) (images : List (List ℕ)) (anchors anchor : ℕ) (found : Found) : Type 0 where
  pub entry : Entry
  pub winner : IsWinner slot images anchors anchor entry
  pub told : found ≡ found_of entry

-- no complete entry that stands at this anchor begins before slot `bound`
abbrev pub HasNoneBefore : ℕ → List (List ℕ) → ℕ → ℕ → ℕ → Type 0
HasNoneBefore slot images anchors anchor bound = (e : Entry) → IsComplete slot images e → anchor_of e.key anchors ≡ anchor → e.first < bound → ⊥

-- this one is the best of those that do
pub record IsBest (slot : ℕ) (images : List (List ℕ)) (anchors anchor bound : ℕ) (found : Found) : Type 0 where
  pub entry : Entry
  pub complete : IsComplete slot images entry
  pub at : anchor_of entry.key anchors ≡ anchor
  pub before : entry.first < bound
  pub best : (f : Entry) → IsComplete slot images f → anchor_of f.key anchors ≡ anchor → f.first < bound → (f.version < entry.version) ⊎ ((f.version ≡ entry.version) × (entry.first ≤ f.first))
  pub told : found ≡ found_of entry

abbrev pub BestBefore : ℕ → List (List ℕ) → ℕ → ℕ → ℕ → Option Found → Type 0
BestBefore slot images anchors anchor bound best = MatchOption best (HasNoneBefore slot images anchors anchor bound) (IsBest slot images anchors anchor bound)

-- the number that tells whose a slot is: of an entry that has it, or 0
abbrev pub IsOwner : ℕ → List Found → ℕ → ℕ → Type 0
IsOwner anchors winners s owner =
    ((f : Found) × Contains winners f × Contains f.chain s × (owner ≡ anchor_of f.key anchors + 1))
    ⊎ (((f : Found) → Contains winners f → Contains f.chain s → ⊥) × (owner ≡ 0))

-- these are the entries that are kept at anchors below `bound`, in order of their anchors
pub record AreWinners (slot : ℕ) (images : List (List ℕ)) (anchors bound : ℕ) (winners : List Found) : Type 0 where
  pub entries : List Entry
  pub told : winners ≡ map found_of entries
  pub won : (e : Entry) → Contains entries e → IsWinner slot images anchors (anchor_of e.key anchors) e
  pub ordered : IsStrictlyIncreasing (map (λ e. anchor_of e.key anchors) entries)
  pub below : All (λ a. a < bound) (map (λ e. anchor_of e.key anchors) entries)
  pub every : (e : Entry) → IsComplete slot images e → anchor_of e.key anchors < bound → Contains (map (λ f. anchor_of f.key anchors) entries) (anchor_of e.key anchors)

-- these numbers tell whose each slot is
abbrev pub AreOwners : ℕ → List Found → List ℕ → Type 0
AreOwners anchors winners owners = (s : ℕ) → s < length owners → IsOwner anchors winners s (slice_index owners s)

-- as many anchors as a store of this number of slots may have
pub record IsAnchors (anchors slots : ℕ) : Type 0 where
  pub from : 1 ≤ anchors
  pub to : anchors ≤ slots
