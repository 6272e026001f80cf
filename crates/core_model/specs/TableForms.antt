-- What becomes of views in a shared table, where the steps of the core have another form. A note is a seat of its own, so notes are
-- made and learned at any place, and with any item of their kinds. And a tab that writes or frees may have another cell in its hands by no
-- step, since the disk wrote or synced it. A disk may forget contents that a crash could leave, so the cell is any that a write and a
-- sync allow.
use Rattle.std.specs.Prelude.{◌++◌, ◌∷◌, ◌≡◌, ◌⊎◌, Contains, List, Some, [], slice_set, true, ℕ}
use mathlib.Core.Option.{some}
use lib.ListN.{get_elem?}
use Rattle.core_model.specs.declared.tab.Freer.{Freer}
use Rattle.core_model.specs.declared.tab.Hold.{Hold}
use Rattle.core_model.specs.declared.tab.Piece.{Piece}
use Rattle.core_model.specs.declared.tab.Tab.TheVariants.{Freeing, Writing}
use Rattle.core_model.specs.declared.tab.Turn.TheVariants.{Has}
use Rattle.core_model.specs.declared.tab.Writer.{Writer}
use Rattle.core_model.specs.declared.view.Item.{Item}
use Rattle.core_model.specs.declared.view.Sight.{Sight}
use Rattle.core_model.specs.declared.view.View.{View}
use Rattle.core_model.specs.Layout.{Setting}
use Rattle.core_model.specs.State.{State}
use Rattle.core_model.specs.CellMoves.{map_some, note_of, spent}

-- the state with these views
abbrev pub renewed : {X : Type 0} → State X → List (View X) → State X
renewed s views = record { words = s.words; places = s.places; views = views; chains = s.chains }

-- the pass has seen more, and its trail has this item
abbrev pub learns : {X : Type 0} → View X → List Sight → Item → View X
learns v sights item = record v { seen = sights ++ v.seen; trail = item ∷ v.trail }

-- a note of the pass i, whose view is v, comes behind all views, or in place of the view n
abbrev pub noted_behind : {X : Type 0} → State X → ℕ → View X → Item → State X
noted_behind s i v item = renewed s (slice_set s.views i (learns v [] item) ++ note_of v ∷ [])

abbrev pub noted_at : {X : Type 0} → State X → ℕ → View X → Item → ℕ → State X
noted_at s i v item n = renewed s (slice_set (slice_set s.views i (learns v [] item)) n (note_of v))

-- the pass has seen what the note n has, whose view is u, and the note is spent
abbrev pub learned_from : {X : Type 0} → State X → ℕ → View X → Item → ℕ → View X → State X
learned_from s i v item n u = renewed s (slice_set (slice_set s.views i (learns v u.seen item)) n spent)

-- the view n is that of a note, or what is left of one
pub record IsNoteAt {X : Type 0} (s : State X) (n : ℕ) (u : View X) : Type 0 where
  pub at : get_elem? s.views n ≡ some u
  pub no_tabs : u.tabs ≡ []

-- and of one that was learned
pub record IsSpentAt {X : Type 0} (s : State X) (n : ℕ) (u : View X) : Type 0 where
  pub note : IsNoteAt s n u
  pub unseen : u.seen ≡ []

-- the view with this hold at its writing tab
abbrev pub with_hold : {X : Type 0} → View X → ℕ → Writer X → Hold X → View X
with_hold v t w h = record v { tabs = slice_set v.tabs t (Writing record w { turn = Has h }) }

-- The hold of a tab that writes may become this one: of the same slot, with any cell of which a crash may leave what a read gives, and
-- besides what it might have left of the old one only the image of the piece that the tab chose. It is known to be written only where the cell has the piece that the tab chose, and to be settled only where a crash leaves one content.
pub record MayRewrite {X : Type 0} (k : Setting X) (v : View X) (t : ℕ) (w : Writer X) (old new : Hold X) : Type 0 where
  pub writes : get_elem? v.tabs t ≡ some (Writing w)  -- the tab is so
  pub turn : w.turn ≡ Has old  -- and has this turn
  pub slot_is : new.slot ≡ old.slot
  pub possible : Contains new.cell.possible new.cell.now  -- what a read gives may outlive a crash
  pub within : (x : X) → Contains new.cell.possible x → Contains old.cell.possible x ⊎ (map_some k.image w.chosen ≡ Some x)  -- nothing else may be left but the chosen image
  pub image : (p : Piece) → w.chosen ≡ Some p → (old.is_written ≡ true → old.cell.now ≡ k.image p) → new.is_written ≡ true → new.cell.now ≡ k.image p  -- no more is written than was
  pub settled : (old.is_settled ≡ true → old.cell.possible ≡ old.cell.now ∷ []) → new.is_settled ≡ true → new.cell.possible ≡ new.cell.now ∷ []  -- no more is settled than is

-- the state with that hold at the tab of the pass i
abbrev pub with_held : {X : Type 0} → State X → ℕ → View X → ℕ → Writer X → Hold X → State X
with_held s i v t w h = renewed s (slice_set s.views i (with_hold v t w h))

-- the view with this hold at its freeing tab
abbrev pub with_wiper : {X : Type 0} → View X → ℕ → Freer X → Hold X → View X
with_wiper v t f h = record v { tabs = slice_set v.tabs t (Freeing record f { turn = Has h }) }

-- The hold of a tab that frees may become this one: of the same slot, with any cell of which a crash may leave what a read gives, and
-- besides what it might have left of the old one only the blank content.
pub record MayBlank {X : Type 0} (k : Setting X) (v : View X) (t : ℕ) (f : Freer X) (old new : Hold X) : Type 0 where
  pub frees : get_elem? v.tabs t ≡ some (Freeing f)  -- the tab is so
  pub turn : f.turn ≡ Has old  -- and has this turn
  pub slot_is : new.slot ≡ old.slot
  pub possible : Contains new.cell.possible new.cell.now  -- what a read gives may outlive a crash
  pub within : (x : X) → Contains new.cell.possible x → Contains old.cell.possible x ⊎ (x ≡ k.blank)  -- nothing else may be left but the blank content

-- the state with that hold at the tab of the pass i
abbrev pub with_wiped : {X : Type 0} → State X → ℕ → View X → ℕ → Freer X → Hold X → State X
with_wiped s i v t f h = renewed s (slice_set s.views i (with_wiper v t f h))
