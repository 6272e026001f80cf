-- What an opening needs of a rebuild, whatever the rebuild is of.
use Rattle.std.specs.Prelude.{◌≡◌, ◌<◌, ◌≤◌, ◌+◌, ◌∷◌, ℕ, List, Contains, length, map, nat_eq, slice_index}
use Rattle.std.specs.List.{IsDistinct}
use Rattle.std.specs.List.Sorted.{IsStrictlyIncreasing}
use Rattle.store_key.specs.Anchor.{anchor_of}
use Rattle.lock_word.specs.Words.{version_limit}
use Rattle.rebuild_model.specs.declared.found.Found.{Found}
use Rattle.rebuild_model.specs.declared.rebuilt.Rebuilt.{Rebuilt}

-- The rebuild may be opened, as a store of so many anchors and slots.
pub record IsKeptSo (anchors slots : ℕ) (r : Rebuilt) : Type 0 where
  pub begins : (f : Found) → Contains r.winners f → (behind : List ℕ) × (f.chain ≡ f.first ∷ behind)  -- a chain begins at its first slot
  pub once : (f : Found) → Contains r.winners f → IsDistinct nat_eq f.chain  -- has no slot twice
  pub within : (f : Found) → Contains r.winners f → (s : ℕ) → Contains f.chain s → s < slots  -- and stays within the store
  pub ordered : IsStrictlyIncreasing (map (λ f. anchor_of f.key anchors) r.winners)  -- an anchor has one entry at most
  pub one_a_slot : length r.owner ≡ slots  -- each slot has a number that tells whose it is
  pub owned : (f : Found) (s : ℕ) → Contains r.winners f → Contains f.chain s → slice_index r.owner s ≡ anchor_of f.key anchors + 1
  pub free : (s : ℕ) → ((f : Found) → Contains r.winners f → Contains f.chain s → ⊥) → slice_index r.owner s ≡ 0
  pub some_version : (f : Found) → Contains r.winners f → 0 < f.version  -- each version is above 0
  pub versions : (f : Found) → Contains r.winners f → f.version ≤ r.greatest  -- no version is above the greatest
  pub limited : r.greatest ≤ version_limit  -- which is within what a header has room for
