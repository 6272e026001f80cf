-- What holds between any two steps of the anchors, and of the tabs at them.
use Rattle.std.specs.Prelude.{◌&&◌, ◌*◌, ◌<◌, ◌==◌, ◌≡◌, ◌≤◌, ◌⊎◌, [], cond, length, sum_by, true, ℕ}
use mathlib.Core.Option.{some}
use lib.ListN.{get_elem?}
use Rattle.lock_word.specs.Words.{IsWord, doom_of, epoch_of, is_left_over, is_written, mode_of, readers_of, stage_of, version_limit, version_of}
use Rattle.core_model.specs.declared.tab.Tab.{Tab}
use Rattle.core_model.specs.declared.tab.Tab.TheVariants.{Free, Freeing, Last, Reading, Retreating, Writing}
use Rattle.core_model.specs.declared.view.View.{View}
use Rattle.core_model.specs.declared.view.Place.TheVariants.{Anchor, Counter}
use Rattle.core_model.specs.Layout.{Setting, word_count, word_in}
use Rattle.core_model.specs.State.{State, word}
use Rattle.core_model.specs.Trails.{last_find, seen_at}
use Rattle.core_model.specs.Tabs.{count, counts, frees, inner, writes}
use Rattle.core_model.specs.CellMoves.{note_of}

abbrev pub opening_epoch : {X : Type 0} → Setting X → ℕ → ℕ
opening_epoch k a = epoch_of (word_in k k.words (Anchor a))

abbrev pub opening_counter : {X : Type 0} → Setting X → ℕ
opening_counter k = word_in k k.words Counter

-- A store opens with each anchor EMPTY or CLOSED, undoomed and without readers, with a version above 0 where it is CLOSED, and with a counter
-- that no version is above.
pub record IsSetting {X : Type 0} (k : Setting X) : Type 0 where
  pub few : k.passes ≤ 32  -- as many workers as there may be
  pub words : length k.words ≡ word_count k  -- one word for each place
  pub limited : opening_counter k ≤ version_limit  -- versions can still be drawn, or the last was
  pub unread : (a : ℕ) → a < k.anchors → readers_of (word_in k k.words (Anchor a)) ≡ 0  -- nobody is counted
  pub mode : (a : ℕ) → a < k.anchors → mode_of (opening_epoch k a) < 16  -- no reserved bit is set
  pub undoomed : (a : ℕ) → a < k.anchors → doom_of (opening_epoch k a) ≡ 0  -- no entry is to be freed
  pub stage : (a : ℕ) → a < k.anchors → (stage_of (opening_epoch k a) ≡ 0) ⊎ (stage_of (opening_epoch k a) ≡ 3)  -- EMPTY or CLOSED
  pub version : (a : ℕ) → a < k.anchors → version_of (opening_epoch k a) ≤ opening_counter k  -- each version was drawn before
  pub some_version : (a : ℕ) → a < k.anchors → stage_of (opening_epoch k a) ≡ 3 → 0 < version_of (opening_epoch k a)  -- an entry has one above 0

abbrev pub tabs_in : {X : Type 0} → View X → ℕ
tabs_in v = length v.tabs

-- The state has the shape of the table: nine tabs for each pass, no view of a note has more than what was seen, and each
-- anchor's word is a word.
pub record Shaped {X : Type 0} (k : Setting X) (s : State X) : Type 0 where
  pub words : length s.words ≡ word_count k  -- one word for each place
  pub places : length s.places ≡ k.slots  -- a place for each slot
  pub chains : length s.chains ≡ k.anchors  -- a chain for each anchor
  pub tabs : sum_by tabs_in s.views ≡ 9 * k.passes  -- nine for each pass
  pub notes : (i : ℕ) (v : View X) → get_elem? s.views i ≡ some v → v.tabs ≡ [] → v ≡ note_of v  -- a view without tabs has sights alone
  pub anchors : (a : ℕ) → a < k.anchors → IsWord (word s a)  -- no bits are set that no word has

-- The readers of an anchor are the tabs that read or retreat there.
abbrev pub ReadersCounted : {X : Type 0} → Setting X → State X → Type 0
ReadersCounted k s = (a : ℕ) → a < k.anchors → readers_of (word s a) ≡ sum_by (count (counts a)) s.views

-- 1 where an epoch is at this stage, TAKEN or APPENDING, with this version
abbrev pub written_at : ℕ → ℕ → ℕ → ℕ
written_at e version stage = cond (is_written e && (version_of e == version) && (stage_of e == stage)) 1 0

-- At TAKEN and APPENDING one tab writes, with the word's version, and knows the stage; at other stages none does.
abbrev pub OneWriter : {X : Type 0} → Setting X → State X → Type 0
OneWriter k s = (a version stage : ℕ) → a < k.anchors →
    written_at (epoch_of (word s a)) version stage ≡ sum_by (count (writes a version stage)) s.views

-- 1 where an epoch is at FREEING, with this version and this doom
abbrev pub freed_at : ℕ → ℕ → ℕ → ℕ
freed_at e version doom = cond ((stage_of e == 5) && (version_of e == version) && (doom_of e == doom)) 1 0

-- At FREEING one inner tab frees, and knows the word's version and doom; at other stages none does.
abbrev pub OneFreer : {X : Type 0} → Setting X → State X → Type 0
OneFreer k s = (a version doom : ℕ) → a < k.anchors →
    freed_at (epoch_of (word s a)) version doom ≡ sum_by (count (frees a version doom)) s.views

-- The epoch at an anchor is of this version, and the entry may be read or was given up.
pub record IsReadAt {X : Type 0} (s : State X) (a version : ℕ) : Type 0 where
  pub version_is : version_of (epoch_of (word s a)) ≡ version
  pub from : 2 ≤ stage_of (epoch_of (word s a))
  pub to : stage_of (epoch_of (word s a)) ≤ 4

-- A tab is at an anchor of the table. One that reads does so with the version that stands there, one that writes is below the
-- inner tab, and the inner tab alone frees. The pass has seen the version that its tab reads or writes.
abbrev pub TabStands : {X : Type 0} → Setting X → State X → View X → ℕ → Tab X → Type 0
TabStands k s v t Free = Unit {0}
TabStands k s v t (Retreating a) = a < k.anchors
TabStands k s v t (Reading r) = (r.anchor < k.anchors) × IsReadAt s r.anchor r.version × (r.version ≤ version_of (seen_at r.anchor v.seen))
TabStands k s v t (Writing w) = (w.anchor < k.anchors) × (t < inner) × (w.version ≤ version_of (seen_at w.anchor v.seen))
TabStands k s v t (Last a) = a < k.anchors
TabStands k s v t (Freeing f) = (f.anchor < k.anchors) × (t ≡ inner)

abbrev pub TabsStand : {X : Type 0} → Setting X → State X → Type 0
TabsStand {X} k s = (i : ℕ) (v : View X) → get_elem? s.views i ≡ some v → (t : ℕ) (tab : Tab X) → get_elem? v.tabs t ≡ some tab → TabStands k s v t tab

-- A tab is last at the anchor, and its pass found this word there last.
pub record IsLastAt {X : Type 0} (s : State X) (a n : ℕ) : Type 0 where
  pub i : ℕ
  pub view : View X
  pub at : get_elem? s.views i ≡ some view
  pub t : ℕ
  pub last : get_elem? view.tabs t ≡ some (Last a)
  pub find : last_find a view.trail ≡ n

-- An entry that is to be freed and that nobody uses has a tab that is last there.
abbrev pub LastUsers : {X : Type 0} → Setting X → State X → Type 0
LastUsers k s = (a : ℕ) → a < k.anchors → is_left_over (word s a) ≡ true → IsLastAt s a (word s a)
