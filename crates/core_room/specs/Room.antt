-- Room: at every moment there is a free slot for each tab that searches for one.
use Rattle.std.specs.Prelude.{◌+◌, ◌/◌, ◌<◌, ◌==◌, ◌≡◌, ◌≤◌, None, Option, Some, cond, length, nat_le, suc, sum_by, zero, ℕ}
use Rattle.link_word.specs.Map.{taken_in}
use Rattle.core_model.specs.declared.tab.Tab.{Tab}
use Rattle.core_model.specs.declared.tab.Tab.TheVariants.{Freeing, Writing}
use Rattle.core_model.specs.declared.view.Place.TheVariants.{Map}
use Rattle.core_model.specs.Layout.{Setting, word_in}
use Rattle.core_model.specs.State.{State, chain_of}
use Rattle.core_model.specs.Spots.{slots_chained}
use Rattle.core_model.specs.Tabs.{count}

-- Each of the first three is 1 where it holds of a search for a free slot, or of a tab, and else 0.

-- it runs
abbrev pub running : Option ℕ → ℕ
running None = 0
running (Some place) = 1

-- it runs, and has found each slot below this one taken
abbrev pub past : ℕ → Option ℕ → ℕ
past slot None = 0
past slot (Some place) = cond (nat_le slot place) 1 0

-- the tab's search has
abbrev pub past_in : {X : Type 0} → ℕ → Tab X → ℕ
past_in slot (Writing w) = past slot w.claim
past_in slot _ = 0

-- What a tab has of the slots of an anchor: what it has reserved there, and one where it searches for one more; or what it has yet to give
-- back, in a chain or loose.
abbrev pub holds_at : {X : Type 0} → ℕ → Tab X → ℕ
holds_at a (Writing w) = cond (w.anchor == a) (length w.reserved + running w.claim) 0
holds_at a (Freeing f) = cond (f.anchor == a) (length f.rest + length f.loose) 0
holds_at a _ = 0

-- 1 where a slot is taken, by its bit in the map, and else 0
abbrev pub taken_at : {X : Type 0} → Setting X → State X → ℕ → ℕ
taken_at k s slot = taken_in (word_in k s.words (Map (slot / 64))) slot

-- how many of the n slots from this one on are taken
abbrev pub taken_from : (taken : ℕ → ℕ) → (slot n : ℕ) → ℕ
taken_from taken slot zero = 0
taken_from taken slot (suc n) = taken slot + taken_from taken (slot + 1) n

-- at every moment of a store that fits
pub record Room {X : Type 0} (k : Setting X) (capacity : ℕ → ℕ) (s : State X) : Type 0 where
  -- Of the n slots from any one on up to the last, those that are taken, and the searches that have found each slot below them taken, are
  -- together at most n.
  pub places : (slot n : ℕ) → slot + n ≡ k.slots → taken_from (taken_at k s) slot n + sum_by (count (past_in slot)) s.views ≤ n
  -- The slots of each anchor are at most its capacity: those of its chain and its tail, and what tabs have of them.
  pub anchors : (a : ℕ) → a < k.anchors → slots_chained (chain_of s a) + sum_by (count (holds_at a)) s.views ≤ capacity a
