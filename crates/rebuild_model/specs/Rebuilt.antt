-- What a rebuild keeps of a file.
use Rattle.std.specs.Prelude.{◌≡◌, ◌⊎◌, ℕ, ◌+◌, ◌<◌, ◌≤◌, List, length, map, Contains, slice_index}
use Rattle.std.specs.List.Sorted.{IsStrictlyIncreasing}
use Rattle.store_key.specs.Anchor.{anchor_of}
use Rattle.rebuild_model.specs.Image.{IsGreatest}
use Rattle.rebuild_model.specs.Entry.{Entry, IsComplete, found_of}
use Rattle.rebuild_model.specs.declared.rebuilt.Rebuilt.{Rebuilt}

-- of the complete entries at one anchor, the one of greatest version, and of those the one that begins first
pub record IsWinner (slot : ℕ) (images : List (List ℕ)) (anchors anchor : ℕ) (e : Entry) : Type 0 where
  pub complete : IsComplete slot images e
  pub at : anchor_of e.key anchors ≡ anchor
  pub best : (f : Entry) → IsComplete slot images f → anchor_of f.key anchors ≡ anchor → (f.version < e.version) ⊎ ((f.version ≡ e.version) × (e.first ≤ f.first))

-- the winners in order of their anchors, the owner of each slot, and the greatest sane version
pub record IsRebuilt (slot : ℕ) (images : List (List ℕ)) (anchors : ℕ) (rebuilt : Rebuilt) : Type 0 where
  pub entries : List Entry
  pub told : rebuilt.winners ≡ map found_of entries
  pub won : (e : Entry) → Contains entries e → IsWinner slot images anchors (anchor_of e.key anchors) e
  pub ordered : IsStrictlyIncreasing (map (λ e. anchor_of e.key anchors) entries)
  pub every : (e : Entry) → IsComplete slot images e → Contains (map (λ f. anchor_of f.key anchors) entries) (anchor_of e.key anchors)
  pub one_a_slot : length rebuilt.owner ≡ length images
  pub owned : (e : Entry) (s : ℕ) → Contains entries e → Contains e.chain s → slice_index rebuilt.owner s ≡ anchor_of e.key anchors + 1
  pub free : (s : ℕ) → ((e : Entry) → Contains entries e → Contains e.chain s → ⊥) → slice_index rebuilt.owner s ≡ 0
  pub greatest : IsGreatest slot images rebuilt.greatest
