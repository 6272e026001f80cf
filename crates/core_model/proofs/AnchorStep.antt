-- A step on the word of one anchor: what it owes, so that it leaves a sound state.
use Rattle.std.proofs.Common.{◌≡◌, ◌≢◌, ◌⊎◌, ℕ, ◌+◌, ◌<◌, ◌≤◌, List, ◌∷◌, ◌++◌, length, get_or, set, sum_by, true, false, Contains}
use mathlib.Core.Option.{some}
use lib.ListN.{get_elem?}
use Rattle.lock_word.specs.Words.{readers_of, epoch_of, version_of, stage_of, doom_of, IsWord, is_left_over}
use Rattle.core_model.specs.declared.tab.Tab.{Tab}
use Rattle.core_model.specs.declared.tab.Tab.TheVariants.{Last}
use Rattle.core_model.specs.declared.view.Item.{Item}
use Rattle.core_model.specs.declared.view.Sight.TheVariants.{Stood}
use Rattle.core_model.specs.declared.view.Place.TheVariants.{Anchor}
use Rattle.core_model.specs.declared.view.Deed.{Deed}
use Rattle.core_model.specs.declared.view.View.{View}
use Rattle.core_model.specs.declared.chain.Chain.{Chain}
use Rattle.core_model.specs.Layout.{Setting, anchor_index}
use Rattle.core_model.specs.Chains.{no_chain, times}
use Rattle.core_model.specs.State.{State, word, chain_of}
use Rattle.core_model.specs.Tabs.{counts, writes, frees, count}
use Rattle.core_model.specs.Trails.{tells_word, is_draw, counted_in, last_find}
use Rattle.core_model.specs.Anchors.{written_at, freed_at, TabStands}
use Rattle.core_model.specs.Deeds.{LeftEpoch, DoomedVersion, HaltedVersion, EvictedVersion, EnteredBy}

-- the view after a step that left the word n' at the anchor a, and saw the epoch e
abbrev pub stepped : {X : Type 0} → View X → ℕ → ℕ → ℕ → List (Tab X) → List ℕ → Item → List Deed → List ℕ → View X
stepped v a n' e tabs held item deeds met = record v {
  tabs = tabs;
  held = held;
  seen = Stood a e ∷ v.seen;
  trail = item ∷ v.trail;
  mirror = record { place = Anchor a; word = n' } ∷ v.mirror;
  deeds = deeds ++ v.deeds;
  met = met ++ v.met;
}

abbrev pub moved : {X : Type 0} → State X → ℕ → View X → ℕ → ℕ → List Chain → State X
moved s i w a n' chains = record { words = set s.words (anchor_index a) n'; places = s.places; views = set s.views i w; chains = chains }

pub record Owes {X : Type 0} (k : Setting X) (s : State X) (i : ℕ) (v : View X) (a n' e : ℕ) (tabs : List (Tab X)) (held : List ℕ) (item : Item) (deeds : List Deed) (met : List ℕ) (chains : List Chain) : Type 0 where
  pub inside : a < k.anchors
  pub good : IsWord n'
  pub rises : epoch_of (word s a) ≤ epoch_of n'
  -- the view
  pub is_pass : length v.tabs ≡ 9
  pub length_same : length tabs ≡ length v.tabs
  pub sees : e ≡ epoch_of n'
  pub item_at : item.at ≡ a
  pub tells : tells_word item.kind ≡ true
  pub no_draw : is_draw item.kind ≡ false
  pub no_count : (found before : ℕ) → counted_in item.kind found before ≡ before
  pub found : epoch_of item.found ≤ epoch_of n'
  pub held_before : (u : ℕ) → Contains held u → Contains v.held u × (times u held ≡ times u v.held)
  -- the tabs
  pub readers : readers_of n' + count (counts a) v ≡ readers_of (word s a) + sum_by (counts a) tabs
  pub writers : (u g : ℕ) → written_at (epoch_of n') u g + count (writes a u g) v ≡ written_at (epoch_of (word s a)) u g + sum_by (writes a u g) tabs
  pub freers : (u d : ℕ) → freed_at (epoch_of n') u d + count (frees a u d) v ≡ freed_at (epoch_of (word s a)) u d + sum_by (frees a u d) tabs
  pub readers_else : (b : ℕ) → b ≢ a → sum_by (counts b) tabs ≡ count (counts b) v
  pub writers_else : (b u g : ℕ) → b ≢ a → sum_by (writes b u g) tabs ≡ count (writes b u g) v
  pub freers_else : (b u d : ℕ) → b ≢ a → sum_by (frees b u d) tabs ≡ count (frees b u d) v
  pub steady : (readers_of (word s a) ≡ 0)
      ⊎ ((version_of (epoch_of n') ≡ version_of (epoch_of (word s a))) × (2 ≤ stage_of (epoch_of (word s a)) → stage_of (epoch_of (word s a)) ≤ 4 → (2 ≤ stage_of (epoch_of n')) × (stage_of (epoch_of n') ≤ 4)))
  pub stand : (t : ℕ) (tab : Tab X) → get_elem? tabs t ≡ some tab
      → (get_elem? v.tabs t ≡ some tab) ⊎ TabStands k (moved s i (stepped v a n' e tabs held item deeds met) a n' chains) (stepped v a n' e tabs held item deeds met) t tab
  pub lasts : is_left_over n' ≡ true → ((t : ℕ) × (get_elem? tabs t ≡ some (Last a)) × (item.found ≡ n'))
      ⊎ ((n' ≡ word s a) × ((t : ℕ) → get_elem? v.tabs t ≡ some (Last a) → last_find a v.trail ≡ n' → (get_elem? tabs t ≡ some (Last a)) × (item.found ≡ n')))
  pub lasts_else : (b t : ℕ) → b ≢ a → get_elem? v.tabs t ≡ some (Last b) → get_elem? tabs t ≡ some (Last b)
  -- the version and the chain
  pub version : (version_of (epoch_of n') ≡ version_of (epoch_of (word s a))) ⊎ (Contains v.held (version_of (epoch_of n')) × (times (version_of (epoch_of n')) held ≡ 0))
  pub chain_count : length chains ≡ length s.chains
  pub chain_else : (b : ℕ) → b ≢ a → get_or chains b no_chain ≡ chain_of s b
  pub chain_here : version_of (epoch_of n') ≡ version_of (epoch_of (word s a)) → stage_of (epoch_of n') ≤ 4
      → (stage_of (epoch_of (word s a)) ≤ 4) × ((get_or chains a no_chain).slots ≡ (chain_of s a).slots)
  -- the deeds
  pub left : (epoch_of n' ≡ epoch_of (word s a)) ⊎ ((d : Deed) × Contains deeds d × LeftEpoch a (epoch_of n') d)
  pub doomed : doom_of (epoch_of n') ≡ 1 → ((doom_of (epoch_of (word s a)) ≡ 1) × (version_of (epoch_of n') ≡ version_of (epoch_of (word s a))))
      ⊎ ((d : Deed) × Contains deeds d × DoomedVersion a (version_of (epoch_of n')) d)
  pub undoomed : doom_of (epoch_of n') ≡ 0 → 4 ≤ stage_of (epoch_of n')
      → ((doom_of (epoch_of (word s a)) ≡ 0) × (4 ≤ stage_of (epoch_of (word s a))) × (version_of (epoch_of n') ≡ version_of (epoch_of (word s a))))
      ⊎ ((d : Deed) × Contains deeds d × (HaltedVersion a (version_of (epoch_of n')) d ⊎ EvictedVersion a (version_of (epoch_of n')) d))
  pub entered : (b : ℕ) → 0 < sum_by (counts b) tabs → (0 < count (counts b) v) ⊎ ((d : Deed) × Contains deeds d × EnteredBy b v.pass d)
  pub met_others : (b : ℕ) → Contains met b → (b ≡ a) × (count (counts a) v < readers_of (word s a))
