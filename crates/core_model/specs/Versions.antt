-- What holds between any two steps of versions, and of what passes and notes have seen.
use Rattle.std.specs.Prelude.{◌*◌, ◌+◌, ◌<◌, ◌≡◌, ◌≤◌, ◌⊎◌, Contains, length, sum_by, true, ℕ}
use mathlib.Core.Option.{some}
use lib.ListN.{get_elem?}
use Rattle.lock_word.specs.Words.{epoch_of, stage_of, version_limit, version_of}
use Rattle.core_model.specs.declared.moves.Side.{Side}
use Rattle.core_model.specs.declared.moves.Side.TheVariants.{Start}
use Rattle.core_model.specs.declared.view.Item.{Item}
use Rattle.core_model.specs.declared.view.Kind.TheVariants.{Counted, Drew}
use Rattle.core_model.specs.declared.view.Place.TheVariants.{Beside}
use Rattle.core_model.specs.declared.view.Sight.{Sight}
use Rattle.core_model.specs.declared.view.Sight.TheVariants.{Named, Published, Stood}
use Rattle.core_model.specs.declared.view.View.{View}
use Rattle.core_model.specs.Layout.{Setting, word_in}
use Rattle.core_model.specs.Chains.{times}
use Rattle.core_model.specs.State.{State, chain_of, counter, word}
use Rattle.core_model.specs.Trails.{drawn, draws, draws_in_vain, drew_since, find_before, last_count, last_find, seen_at, sight_anchor, sight_version}
use Rattle.core_model.specs.Anchors.{opening_counter}

-- An entry that is not given back yet has a published slot.
abbrev pub HasSlot : {X : Type 0} → State X → ℕ → Type 0
HasSlot s a = stage_of (epoch_of (word s a)) ≤ 4 → 0 < length (chain_of s a).slots

-- What was seen is at most what is there: epochs; of the version that stands, the key and the offer, which are not seen before
-- a slot is published; and so many published slots. No sight is of a later version than the epoch seen there. And what was seen
-- of the key and the offer of one version agrees, also after that version has gone. No sight names a Start word.
pub record SeenStands {X : Type 0} (k : Setting X) (s : State X) : Type 0 where
  pub epochs : (i : ℕ) (v : View X) → get_elem? s.views i ≡ some v → (a : ℕ) → a < k.anchors → seen_at a v.seen ≤ epoch_of (word s a)  -- no view has seen a later epoch than stands
  pub inside : (i : ℕ) (v : View X) → get_elem? s.views i ≡ some v → (x : Sight) → Contains v.seen x → sight_anchor x < k.anchors  -- each sight is of an anchor of the table
  pub no_start : (i : ℕ) (v : View X) → get_elem? s.views i ≡ some v → (a version value : ℕ) → Contains v.seen (Named a version Start value) → ⊥  -- Start words are not seen
  pub known : (i : ℕ) (v : View X) → get_elem? s.views i ≡ some v → (x : Sight) → Contains v.seen x
      → sight_version x ≤ version_of (seen_at (sight_anchor x) v.seen)  -- no sight is of a later version than the epoch seen there
  pub named : (i : ℕ) (v : View X) → get_elem? s.views i ≡ some v → (a version : ℕ) (side : Side) (value : ℕ) → Contains v.seen (Named a version side value)
      → version_of (epoch_of (word s a)) ≡ version → (word_in k s.words (Beside side a) ≡ value) × HasSlot s a  -- a name of the standing version is the word there
  pub published : (i : ℕ) (v : View X) → get_elem? s.views i ≡ some v → (a version many : ℕ) → Contains v.seen (Published a version many)
      → version_of (epoch_of (word s a)) ≡ version → stage_of (epoch_of (word s a)) ≤ 4 → many ≤ length (chain_of s a).slots  -- as many slots are published, at least
  pub agree : (i j : ℕ) (v w : View X) → get_elem? s.views i ≡ some v → get_elem? s.views j ≡ some w → (a version : ℕ) (side : Side) (x y : ℕ)
      → Contains v.seen (Named a version side x) → Contains w.seen (Named a version side y) → x ≡ y  -- two sights of one name are the same

abbrev pub draws_by : {X : Type 0} → View X → ℕ
draws_by v = draws v.trail

abbrev pub vain_by : {X : Type 0} → View X → ℕ
vain_by v = draws_in_vain v.trail

abbrev pub drawn_by : {X : Type 0} → ℕ → View X → ℕ
drawn_by version v = drawn version v.trail

-- The counter is the opening's and one more for each draw, and nobody found more. No version was drawn twice, and each that
-- was drawn is above the opening's counter. Each anchor's version is at most the counter. Past the limit a pass draws once.
pub record VersionsDrawn {X : Type 0} (k : Setting X) (s : State X) : Type 0 where
  pub counted : counter k s ≡ opening_counter k + sum_by draws_by s.views  -- one more for each draw
  pub looked : (i : ℕ) (v : View X) → get_elem? s.views i ≡ some v → (x : Item) → Contains v.trail x → x.kind ≡ Counted → x.found ≤ counter k s  -- who looked found no more
  pub drew : (i : ℕ) (v : View X) → get_elem? s.views i ≡ some v → (x : Item) → Contains v.trail x → x.kind ≡ Drew → x.found < counter k s  -- who drew found less
  pub once : (version : ℕ) → sum_by (drawn_by version) s.views ≤ 1  -- no version twice
  pub above : (version : ℕ) → 0 < sum_by (drawn_by version) s.views → (opening_counter k < version) × (version ≤ counter k s)  -- each is new, and was counted
  pub stand : (a : ℕ) → a < k.anchors → version_of (epoch_of (word s a)) ≤ counter k s  -- no anchor has a version that was not drawn
  pub limited : counter k s ≤ version_limit + sum_by vain_by s.views  -- past the limit by the draws in vain
  pub vain : (i : ℕ) (v : View X) → get_elem? s.views i ≡ some v → 9 * draws_in_vain v.trail ≤ length v.tabs  -- one at most for each pass
  pub stops : (i : ℕ) (v : View X) → get_elem? s.views i ≡ some v → 0 < draws_in_vain v.trail → (version_limit ≤ last_count v.trail) × (version_limit ≤ counter k s)  -- who drew in vain knows it

-- The version stands at the anchor, or was seen there.
pub record IsSighted {X : Type 0} (s : State X) (a version : ℕ) : Type 0 where
  pub i : ℕ
  pub view : View X
  pub at : get_elem? s.views i ≡ some view
  pub sight : Sight
  pub seen : Contains view.seen sight
  pub anchor : sight_anchor sight ≡ a
  pub version_is : sight_version sight ≡ version

abbrev pub IsKnownAt : {X : Type 0} → Setting X → State X → ℕ → ℕ → Type 0
IsKnownAt k s a version = ((a < k.anchors) × (version_of (epoch_of (word s a)) ≡ version)) ⊎ IsSighted s a version

-- The pass drew this version, holds it once, and it stands and was seen nowhere.
pub record IsFresh {X : Type 0} (k : Setting X) (s : State X) (v : View X) (version : ℕ) : Type 0 where
  pub drawn : 0 < drawn version v.trail
  pub once : times version v.held ≡ 1
  pub fits : version ≤ version_limit
  pub unknown : (a : ℕ) → IsKnownAt k s a version → ⊥

-- A version that a pass holds is fresh, and above each word that the pass found before it drew. A version above the opening's
-- counter is known at one anchor at most. A pass has seen the epochs that it found.
pub record VersionsHeld {X : Type 0} (k : Setting X) (s : State X) : Type 0 where
  pub fresh : (i : ℕ) (v : View X) → get_elem? s.views i ≡ some v → (version : ℕ) → Contains v.held version → IsFresh k s v version  -- it stands and was seen nowhere
  pub since : (i : ℕ) (v : View X) → get_elem? s.views i ≡ some v → (a version : ℕ) → a < k.anchors → Contains v.held version → drew_since version a v.trail ≡ true
      → version_of (epoch_of (last_find a v.trail)) < version  -- it is above what was found before it
  pub one_anchor : (a b version : ℕ) → opening_counter k < version → IsKnownAt k s a version → IsKnownAt k s b version → a ≡ b  -- a new version is known at one anchor
  pub finds : (i : ℕ) (v : View X) → get_elem? s.views i ≡ some v → (a : ℕ) → epoch_of (last_find a v.trail) ≤ seen_at a v.seen  -- what was found was seen

-- In the course of time.

-- The stage g leads to h in the life of one version: they are the same, or h comes after. TAKEN and APPENDING lead to each stage
-- above them, CLOSED and HALTED to FREEING and GONE, and FREEING to GONE. EMPTY and GONE lead on to another version alone.
abbrev pub Leads : ℕ → ℕ → Type 0
Leads g h = (g ≡ h) ⊎ ((0 < g) × (g < h) × (h ≤ 6) × ((g < 3) ⊎ (4 < h)))

-- a view has seen a published slot of the version at the anchor a
pub record IsShown {X : Type 0} (s : State X) (a version : ℕ) : Type 0 where
  pub i : ℕ
  pub view : View X
  pub at : get_elem? s.views i ≡ some view
  pub many : ℕ
  pub seen : Contains view.seen (Published a version many)
  pub some_slot : 0 < many

-- A stage that was seen of the version that stands leads to the stage that stands. (That the epoch is not below the one seen does
-- not say so: a doomed one is above each undoomed one of its version, whatever their stages.) Where a key or an offer of a new
-- version was seen, a published slot of it was, and of a version that is not new what was seen is what stood beside the anchor at the
-- opening. And a version that a pass holds is above the word that the pass found before it
-- drew, whatever it found later.
pub record SightsLead {X : Type 0} (k : Setting X) (s : State X) : Type 0 where
  pub stages : (i : ℕ) (v : View X) → get_elem? s.views i ≡ some v → (a e : ℕ) → a < k.anchors → Contains v.seen (Stood a e)
      → version_of e ≡ version_of (epoch_of (word s a)) → Leads (stage_of e) (stage_of (epoch_of (word s a)))
  pub shown : (i : ℕ) (v : View X) → get_elem? s.views i ≡ some v → (a version : ℕ) (side : Side) (value : ℕ) → Contains v.seen (Named a version side value)
      → opening_counter k < version → IsShown s a version
  pub old : (i : ℕ) (v : View X) → get_elem? s.views i ≡ some v → (a version : ℕ) (side : Side) (value : ℕ) → Contains v.seen (Named a version side value)
      → version ≤ opening_counter k → value ≡ word_in k k.words (Beside side a)
  pub before : (i : ℕ) (v : View X) → get_elem? s.views i ≡ some v → (a version : ℕ) → a < k.anchors → Contains v.held version
      → version_of (epoch_of (find_before version a v.trail)) < version
