-- Entries whose writer gave up, as passes found them: a pass looked at the anchor and found the entry so, and after that it looked at the
-- link of a slot and found none. The newest item of a trail stands first.
use Rattle.std.specs.Prelude.{◌∷◌, ◌≡◌, ◌⊎◌, Contains, List, [], ℕ}
use mathlib.Core.Option.{some}
use lib.ListN.{get_elem?}
use Rattle.lock_word.specs.Words.{epoch_of, stage_of, version_of}
use Rattle.core_model.specs.declared.view.Item.{Item}
use Rattle.core_model.specs.declared.view.Kind.TheVariants.{Followed, Looked}
use Rattle.core_model.specs.declared.view.Sight.TheVariants.{Stood}
use Rattle.core_model.specs.declared.view.View.{View}
use Rattle.core_model.specs.State.{State, chain_of, word}

-- the word of an anchor says that its entry is of this version, and that its writer gave up
pub record SaysHalted (version n : ℕ) : Type 0 where
  pub version_is : version_of (epoch_of n) ≡ version
  pub stage_is : stage_of (epoch_of n) ≡ 4

-- the step looked at the anchor a, and found its word so
pub record SawHalted (a version : ℕ) (x : Item) : Type 0 where
  pub kind : x.kind ≡ Looked
  pub at : x.at ≡ a
  pub halted : SaysHalted version x.found

-- one of these steps did
pub record HasHalted (a version : ℕ) (trail : List Item) : Type 0 where
  pub item : Item
  pub there : Contains trail item
  pub saw : SawHalted a version item

-- the step looked at the link of the slot, and found none
pub record SawNoLink (slot : ℕ) (x : Item) : Type 0 where
  pub kind : x.kind ≡ Followed
  pub at : x.at ≡ slot
  pub found : x.found ≡ 0

-- one of these steps did, and an older one had looked at the anchor and found its word so
abbrev pub HasEnd : (a version slot : ℕ) → List Item → Type 0
HasEnd a version slot [] = ⊥
HasEnd a version slot (x ∷ xs) = (SawNoLink slot x × HasHalted a version xs) ⊎ HasEnd a version slot xs

-- the pass found that the entry was given up, and that it goes on to this slot and no further
abbrev pub FoundEnd : {X : Type 0} → View X → (a version slot : ℕ) → Type 0
FoundEnd v a version slot = HasEnd a version slot v.trail

-- Where an entry is given up, no slot is published any more.
pub record HaltsStand {X : Type 0} (s : State X) : Type 0 where
  -- what a pass found where it looked at an anchor it has seen
  pub looks : (i : ℕ) (v : View X) → get_elem? s.views i ≡ some v → (x : Item) → Contains v.trail x → x.kind ≡ Looked
      → Contains v.seen (Stood x.at (epoch_of x.found))
  -- while the anchor says so, a slot at which the entry was found to go no further is none of those that are published
  pub ends : (i : ℕ) (v : View X) → get_elem? s.views i ≡ some v → (a version slot : ℕ) → SaysHalted version (word s a)
      → FoundEnd v a version slot → Contains (chain_of s a).slots slot → ⊥
