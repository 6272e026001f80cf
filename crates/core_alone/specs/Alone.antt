-- Anchors that are left to one pass: nobody else changes what stands there, so that the pass knows it. `left pass a` says that the anchor a
-- is left to the pass with this number.
use Rattle.std.specs.Prelude.{◌&&◌, ◌++◌, ◌<◌, ◌==◌, ◌∷◌, ◌≡◌, ◌≢◌, Bool, Contains, List, [], cond, false, true, ℕ}
use mathlib.Core.Option.{some}
use lib.ListN.{get_elem?}
use Rattle.link_word.specs.Map.{taken_in}
use Rattle.core_model.specs.declared.moves.Move.{Move}
use Rattle.core_model.specs.declared.moves.Move.TheVariants.{Enter, Evict, Take}
use Rattle.core_model.specs.declared.moves.Side.{Side}
use Rattle.core_model.specs.declared.tab.Tab.{Tab}
use Rattle.core_model.specs.declared.tab.Tab.TheVariants.{Free, Freeing, Last, Reading, Retreating, Writing}
use Rattle.core_model.specs.declared.view.Item.{Item}
use Rattle.core_model.specs.declared.view.Kind.{Kind}
use Rattle.core_model.specs.declared.view.Kind.TheVariants.{Followed, Linked, Owned}
use Rattle.core_model.specs.declared.view.Place.{Place}
use Rattle.core_model.specs.declared.view.Place.TheVariants.{Anchor, Beside, Link}
use Rattle.core_model.specs.declared.view.View.{View}
use Rattle.core_model.specs.Deeds.{mirrored}
use Rattle.core_model.specs.Holders.{IsTab}
use Rattle.core_model.specs.Layout.{Setting, index, word_in}
use Rattle.core_model.specs.State.{State, chain_of}

-- What a pass knows of a word.

abbrev pub is_owned : Kind → Bool
is_owned Owned = true
is_owned _ = false

abbrev pub is_on_link : Kind → Bool
is_on_link Linked = true
is_on_link Followed = true
is_on_link _ = false

-- the step reserved the slot: the slot's bit was clear in the word of the map that it found
abbrev pub reserved_at : ℕ → Item → Bool
reserved_at slot x = is_owned x.kind && ((x.at == slot) && (taken_in x.found slot == 0))

-- the step was on the link of the slot
abbrev pub linked_at : ℕ → Item → Bool
linked_at slot x = is_on_link x.kind && (x.at == slot)

-- since the pass reserved the slot last, no step of it was on the slot's link; the newest item of a trail stands first
abbrev pub is_unlinked : ℕ → List Item → Bool
is_unlinked slot [] = false
is_unlinked slot (x ∷ xs) = cond (reserved_at slot x) true (cond (linked_at slot x) false (is_unlinked slot xs))

-- A slot that is reserved has no link, whatever the pass knew of it before. Otherwise its link is what the pass last left of it.
abbrev pub link_in : {X : Type 0} → Setting X → View X → ℕ → ℕ
link_in k v slot = cond (is_unlinked slot v.trail) 0 (mirrored k (index k (Link slot)) v.mirror)

-- what a pass has of a word: of a link this, of any other word what it last left of it, or else the opening's
abbrev pub has_word : {X : Type 0} → Setting X → View X → Place → ℕ
has_word k v (Link slot) = link_in k v slot
has_word k v p = mirrored k (index k p) v.mirror

-- the word is what the pass has of it
abbrev pub KnowsWord : {X : Type 0} → Setting X → State X → View X → Place → Type 0
KnowsWord k s v p = word_in k s.words p ≡ has_word k v p

-- Where a tab is, and which slots it has.

abbrev pub IsTabAt : {X : Type 0} → Tab X → ℕ → Type 0
IsTabAt Free a = ⊥
IsTabAt (Retreating b) a = b ≡ a
IsTabAt (Reading r) a = r.anchor ≡ a
IsTabAt (Writing w) a = w.anchor ≡ a
IsTabAt (Last b) a = b ≡ a
IsTabAt (Freeing f) a = f.anchor ≡ a

-- the tab has reserved the slot, or has yet to take it out of the chain that it gives back
abbrev pub HoldsSlot : {X : Type 0} → Tab X → ℕ → Type 0
HoldsSlot (Writing w) slot = Contains w.reserved slot
HoldsSlot (Freeing f) slot = Contains f.rest slot
HoldsSlot tab slot = ⊥

-- the view is that of a pass, and the anchor is left to it
abbrev pub IsLeftTo : {X : Type 0} → (left : ℕ → ℕ → Bool) → View X → ℕ → Type 0
IsLeftTo left v a = (v.tabs ≢ []) × (left v.pass a ≡ true)

module _ {X : Type 0} (left : ℕ → ℕ → Bool) (k : Setting X) (s : State X) where
  -- What a pass knows of the anchors that are left to it.
  pub record KnowsAlone (v : View X) : Type 0 where
    -- the word of the anchor
    pub word : (a : ℕ) → a < k.anchors → left v.pass a ≡ true → KnowsWord k s v (Anchor a)
    -- the four words beside it
    pub sides : (side : Side) (a : ℕ) → a < k.anchors → left v.pass a ≡ true → KnowsWord k s v (Beside side a)
    -- the link of each slot of its chain, and of the chain's tail
    pub links : (a slot : ℕ) → a < k.anchors → left v.pass a ≡ true → Contains ((chain_of s a).slots ++ (chain_of s a).tail) slot
        → KnowsWord k s v (Link slot)
    -- and of each slot that a tab of the pass there has reserved, or has yet to give back
    pub held : (t a slot : ℕ) (tab : Tab X) → get_elem? v.tabs t ≡ some tab → IsTabAt tab a → left v.pass a ≡ true → HoldsSlot tab slot
        → KnowsWord k s v (Link slot)

  -- Anchors that are left to a pass are its own.
  pub record StandsAlone : Type 0 where
    -- a tab that is at one of them is of this pass
    pub apart : (i j t a : ℕ) (u : View X) (tab : Tab X) → get_elem? s.views i ≡ some u → IsLeftTo left u a → IsTab s j t tab
        → IsTabAt tab a → j ≡ i
    -- and each pass knows what stands at its own
    pub each : (i : ℕ) (v : View X) → get_elem? s.views i ≡ some v → v.tabs ≢ [] → KnowsAlone v

-- the anchor is left to no other pass than the pass i
abbrev pub MayCome : {X : Type 0} → (left : ℕ → ℕ → Bool) → State X → (i a : ℕ) → Type 0
MayCome {X} left s i a = (j : ℕ) (u : View X) → get_elem? s.views j ≡ some u → IsLeftTo left u a → j ≡ i

-- a step of the pass i comes to no anchor that is left to another one
abbrev pub ComesRight : {X : Type 0} → (left : ℕ → ℕ → Bool) → State X → ℕ → Move → Type 0
ComesRight left s i (Enter t a) = MayCome left s i a
ComesRight left s i (Take t a version) = MayCome left s i a
ComesRight left s i (Evict t a) = MayCome left s i a
ComesRight left s i m = Unit {0}
