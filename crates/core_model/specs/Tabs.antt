-- What tabs are, and how many of a view are so.
use Rattle.std.specs.Prelude.{◌&&◌, ◌==◌, ◌≡◌, Bool, List, cond, false, length, slice_index_or, slice_set, sum_by, true, ℕ}
use Rattle.lock_word.specs.Words.{doom_number}
use Rattle.core_model.specs.declared.tab.Freer.{Freer}
use Rattle.core_model.specs.declared.tab.Reader.{Reader}
use Rattle.core_model.specs.declared.tab.Tab.{Tab}
use Rattle.core_model.specs.declared.tab.Tab.TheVariants.{Free, Freeing, Last, Reading, Retreating, Writing}
use Rattle.core_model.specs.declared.tab.Turn.{Turn}
use Rattle.core_model.specs.declared.tab.Turn.TheVariants.{Has, NoTurn}
use Rattle.core_model.specs.declared.tab.Writer.{Writer}
use Rattle.core_model.specs.declared.view.View.{View}

abbrev pub tab_at : {X : Type 0} → View X → ℕ → Tab X
tab_at v t = slice_index_or v.tabs t Free

-- the inner tab is the last of nine
abbrev pub inner : ℕ
inner = 8

-- the tab t becomes this one
abbrev pub with_tab : {X : Type 0} → View X → ℕ → Tab X → List (Tab X)
with_tab v t tab = slice_set v.tabs t tab

abbrev pub is_free : {X : Type 0} → Tab X → Bool
is_free Free = true
is_free _ = false

-- counted among the readers of an anchor
abbrev pub is_counted : {X : Type 0} → Tab X → Bool
is_counted (Retreating a) = true
is_counted (Reading r) = true
is_counted _ = false

abbrev pub is_reading : {X : Type 0} → Tab X → Bool
is_reading (Reading r) = true
is_reading _ = false

-- it reads, writes or frees
abbrev pub is_using : {X : Type 0} → Tab X → Bool
is_using (Reading r) = true
is_using (Writing w) = true
is_using (Freeing f) = true
is_using _ = false

abbrev pub has_turn : {X : Type 0} → Turn X → Bool
has_turn NoTurn = false
has_turn (Has h) = true

abbrev pub turn_of : {X : Type 0} → Tab X → Turn X
turn_of (Reading r) = r.turn
turn_of (Writing w) = w.turn
turn_of (Freeing f) = f.turn
turn_of _ = NoTurn

abbrev pub holds_turn : {X : Type 0} → Tab X → Bool
holds_turn tab = has_turn (turn_of tab)

abbrev pub anchor_of : {X : Type 0} → Tab X → ℕ
anchor_of Free = 0
anchor_of (Retreating a) = a
anchor_of (Reading r) = r.anchor
anchor_of (Writing w) = w.anchor
anchor_of (Last a) = a
anchor_of (Freeing f) = f.anchor

-- TAKEN or APPENDING
abbrev pub stage_written : {X : Type 0} → Writer X → ℕ
stage_written w = cond w.is_appending 2 1

-- the stage of the anchor that a writing or freeing tab has
abbrev pub stage_held : {X : Type 0} → Tab X → ℕ
stage_held (Writing w) = stage_written w
stage_held (Freeing f) = 5
stage_held _ = 0

-- the tab is so, and P holds of what it has
abbrev pub OfReader : {X : Type 0} → (Reader X → Type 0) → Tab X → Type 0
OfReader P (Reading r) = P r
OfReader P _ = ⊥

abbrev pub OfWriter : {X : Type 0} → (Writer X → Type 0) → Tab X → Type 0
OfWriter P (Writing w) = P w
OfWriter P _ = ⊥

abbrev pub OfFreer : {X : Type 0} → (Freer X → Type 0) → Tab X → Type 0
OfFreer P (Freeing f) = P f
OfFreer P _ = ⊥

-- the view is that of a pass
abbrev pub IsPass : {X : Type 0} → View X → Type 0
IsPass v = length v.tabs ≡ 9

abbrev pub InnerIsFree : {X : Type 0} → View X → Type 0
InnerIsFree v = is_free (tab_at v inner) ≡ true

-- Each of these is 1 where it holds of the tab, and else 0.

-- it is counted at the anchor a
abbrev pub counts : {X : Type 0} → ℕ → Tab X → ℕ
counts a (Retreating b) = cond (b == a) 1 0
counts a (Reading r) = cond (r.anchor == a) 1 0
counts a _ = 0

-- it writes this version at the anchor a, which is at this stage
abbrev pub writes : {X : Type 0} → ℕ → ℕ → ℕ → Tab X → ℕ
writes a version stage (Writing w) = cond ((w.anchor == a) && (w.version == version) && (stage_written w == stage)) 1 0
writes a version stage _ = 0

-- it frees the entry of this version and doom at the anchor a, which is at FREEING
abbrev pub frees : {X : Type 0} → ℕ → ℕ → ℕ → Tab X → ℕ
frees a version doom (Freeing f) = cond ((f.anchor == a) && f.is_freeing && (f.version == version) && (doom_number f.is_doomed == doom)) 1 0
frees a version doom _ = 0

-- the tabs of a view of which something holds
abbrev pub count : {X : Type 0} → (Tab X → ℕ) → View X → ℕ
count f v = sum_by f v.tabs
