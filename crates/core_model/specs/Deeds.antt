-- What holds between any two steps of the records: mirrors, and the deeds that explain each epoch.
use Rattle.std.specs.Prelude.{◌<◌, ◌==◌, ◌∷◌, ◌≡◌, ◌≢◌, ◌≤◌, ◌⊎◌, Contains, List, [], cond, slice_index, true, ℕ}
use mathlib.Core.Option.{some}
use lib.ListN.{get_elem?}
use Rattle.lock_word.specs.Words.{doom_of, epoch_of, stage_of, version_of}
use Rattle.core_model.specs.declared.view.Deed.{Deed}
use Rattle.core_model.specs.declared.view.Kind.TheVariants.{Changed, Doomed, Entered, Raised}
use Rattle.core_model.specs.declared.view.Sight.TheVariants.{Stood}
use Rattle.core_model.specs.declared.view.Trace.{Trace}
use Rattle.core_model.specs.declared.view.View.{View}
use Rattle.core_model.specs.Layout.{Setting, index, word_count}
use Rattle.core_model.specs.State.{State, word}
use Rattle.core_model.specs.Tabs.{count, counts}
use Rattle.core_model.specs.Anchors.{opening_counter, opening_epoch}

-- what the pass last left of the word p, or else the opening's word
abbrev pub mirrored : {X : Type 0} → Setting X → ℕ → List Trace → ℕ
mirrored k p [] = slice_index k.words p
mirrored k p (x ∷ xs) = cond (index k x.place == p) x.word (mirrored k p xs)

-- Where the store has one pass, its mirror is the words.
abbrev pub OneMirror : {X : Type 0} → Setting X → State X → Type 0
OneMirror {X} k s = k.passes ≡ 1 → (i : ℕ) (v : View X) → get_elem? s.views i ≡ some v → v.tabs ≢ [] →
    (p : ℕ) → p < word_count k → mirrored k p v.mirror ≡ slice_index s.words p

-- The epoch stands at the anchor, or was seen there.
abbrev pub IsEpochAt : {X : Type 0} → Setting X → State X → ℕ → ℕ → Type 0
IsEpochAt {X} k s a e = ((a < k.anchors) × (epoch_of (word s a) ≡ e)) ⊎ ((i : ℕ) × (v : View X) × (get_elem? s.views i ≡ some v) × Contains v.seen (Stood a e))

-- A deed is recorded of which P holds.
pub record IsDone {X : Type 0} (s : State X) (P : Deed → Type 0) : Type 0 where
  pub i : ℕ
  pub view : View X
  pub at : get_elem? s.views i ≡ some view
  pub deed : Deed
  pub done : Contains view.deeds deed
  pub so : P deed

-- it changed, raised or doomed the anchor a
abbrev pub Changes : ℕ → Deed → Type 0
Changes a d = (d.anchor ≡ a) × ((d.kind ≡ Changed) ⊎ (d.kind ≡ Raised) ⊎ (d.kind ≡ Doomed))

abbrev pub LeftEpoch : ℕ → ℕ → Deed → Type 0
LeftEpoch a e d = Changes a d × (d.epoch ≡ e)

abbrev pub DoomedVersion : ℕ → ℕ → Deed → Type 0
DoomedVersion a version d = (d.kind ≡ Doomed) × (d.anchor ≡ a) × (version_of d.epoch ≡ version)

abbrev pub HaltedVersion : ℕ → ℕ → Deed → Type 0
HaltedVersion a version d = (d.kind ≡ Raised) × (d.anchor ≡ a) × (version_of d.epoch ≡ version) × (stage_of d.epoch ≡ 4)

-- it raised the version to CLOSED, and the version was not doomed
abbrev pub ClosedVersion : ℕ → ℕ → Deed → Type 0
ClosedVersion a version d = (d.kind ≡ Raised) × (d.anchor ≡ a) × (version_of d.epoch ≡ version) × (stage_of d.epoch ≡ 3) × (doom_of d.epoch ≡ 0)

abbrev pub EvictedVersion : ℕ → ℕ → Deed → Type 0
EvictedVersion a version d = (d.kind ≡ Changed) × (d.anchor ≡ a) × (version_of d.epoch ≡ version) × (stage_of d.epoch ≡ 5) × (d.was_idle ≡ true)

abbrev pub EnteredBy : ℕ → ℕ → Deed → Type 0
EnteredBy a pass d = (d.kind ≡ Entered) × (d.anchor ≡ a) × (d.pass ≡ pass)

abbrev pub EnteredByAnother : ℕ → ℕ → Deed → Type 0
EnteredByAnother a pass d = (d.kind ≡ Entered) × (d.anchor ≡ a) × (d.pass ≢ pass)

-- Each epoch that stands or was seen is the opening's, or a deed left it. A doomed one was doomed. An undoomed one at HALTED,
-- FREEING or GONE was halted, or was evicted from an idle word. A pass with a tab that is counted at an anchor entered it, and where a
-- pass met more readers than its own tabs another pass entered. Passes have numbers of their own.
pub record DeedsExplain {X : Type 0} (k : Setting X) (s : State X) : Type 0 where
  pub left : (a e : ℕ) → IsEpochAt k s a e → (e ≡ opening_epoch k a) ⊎ IsDone s (LeftEpoch a e)  -- each epoch is the opening's, or was left by a deed
  pub doomed : (a e : ℕ) → IsEpochAt k s a e → doom_of e ≡ 1 → IsDone s (DoomedVersion a (version_of e))  -- who is doomed was doomed
  pub undoomed : (a e : ℕ) → IsEpochAt k s a e → doom_of e ≡ 0 → 4 ≤ stage_of e →
      IsDone s (HaltedVersion a (version_of e)) ⊎ IsDone s (EvictedVersion a (version_of e))  -- who is to be freed was halted, or evicted
  pub entered : (i : ℕ) (v : View X) → get_elem? s.views i ≡ some v → (a : ℕ) → 0 < count (counts a) v → IsDone s (EnteredBy a v.pass)  -- who is counted entered
  pub met : (i : ℕ) (v : View X) → get_elem? s.views i ≡ some v → (a : ℕ) → Contains v.met a → IsDone s (EnteredByAnother a v.pass)  -- more readers than its own: another entered
  pub numbers : (i j : ℕ) (v w : View X) → get_elem? s.views i ≡ some v → get_elem? s.views j ≡ some w → v.tabs ≢ [] → w.tabs ≢ [] → v.pass ≡ w.pass → i ≡ j  -- no two passes have one number

-- What deeds tell of the versions and stages that they left.

-- An epoch with a version that is not above the opening's counter has the version that its anchor had at the opening, and the stage,
-- or its entry is given back: that is so only where the anchor had one.
pub record IsOldEpoch {X : Type 0} (k : Setting X) (a e : ℕ) : Type 0 where
  pub version : version_of e ≡ version_of (opening_epoch k a)
  pub stage : (stage_of e ≡ stage_of (opening_epoch k a)) ⊎ ((5 ≤ stage_of e) × (stage_of (opening_epoch k a) ≡ 3))

-- it took the anchor for a new entry of this version
abbrev pub TookVersion : ℕ → ℕ → Deed → Type 0
TookVersion a version d = (d.kind ≡ Changed) × (d.anchor ≡ a) × (version_of d.epoch ≡ version) × (stage_of d.epoch ≡ 1)

-- Of an epoch that a deed left: one with a version of the opening is old, one with a new version has a deed that took the anchor for
-- it, one at HALTED, doomed or not, a deed that halted its version, and an undoomed one at CLOSED a deed that raised it there. None is
-- at EMPTY, and no doomed one is at TAKEN. A new version that was evicted from an idle word was raised to CLOSED before.
pub record DeedsTell {X : Type 0} (k : Setting X) (s : State X) : Type 0 where
  pub old : (a e : ℕ) → IsDone s (LeftEpoch a e) → version_of e ≤ opening_counter k → IsOldEpoch k a e
  pub taken : (a e : ℕ) → IsDone s (LeftEpoch a e) → opening_counter k < version_of e → IsDone s (TookVersion a (version_of e))
  pub halted : (a e : ℕ) → IsDone s (LeftEpoch a e) → stage_of e ≡ 4 → IsDone s (HaltedVersion a (version_of e))
  pub begun : (a e : ℕ) → IsDone s (LeftEpoch a e) → 1 ≤ stage_of e  -- at TAKEN or later
  pub grown : (a e : ℕ) → IsDone s (LeftEpoch a e) → doom_of e ≡ 1 → 2 ≤ stage_of e  -- what is doomed is at APPENDING or later
  pub closed : (a e : ℕ) → IsDone s (LeftEpoch a e) → stage_of e ≡ 3 → doom_of e ≡ 0 → IsDone s (ClosedVersion a (version_of e))
  -- what was evicted from an idle word was closed
  pub evicted : (a version : ℕ) → opening_counter k < version → IsDone s (EvictedVersion a version) → IsDone s (ClosedVersion a version)
