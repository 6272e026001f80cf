-- What each step tells.
use Rattle.std.specs.Prelude.{◌≡◌, ℕ, Option, Some, None, List, [], ◌∷◌, ◌++◌}
use mathlib.Core.Option.{some}
use lib.ListN.{get_elem?}
use Rattle.atomic_table.specs.Table.{State, Me, Step, rest}
use Rattle.marks.specs.declared.view.View.{View}
use Rattle.marks.specs.Views.{opened, Agrees}
use Rattle.marks.specs.Ruled.{IsEmpty, Knows, Ruled}

module _ {K N Fact Place : Type 0} (tells : N → Fact → Type 0) (place : N → Place) (home : K → Place) where
  -- a table that keeps the rule, in which a seat has the view v, and no note lies at the place m
  pub record FoundEmpty (about : K) (m : ℕ) (v : View K N) : Type 0 where
    pub state : State (Option N) (View K N)
    pub rule : Ruled tells place home about state
    pub id : ℕ
    pub seat : get_elem? state.views id ≡ some v
    pub empty : IsEmpty (rule.phases m)

  -- the seat has the note that lay there, and knows the one that was set
  pub record Taken (m : ℕ) (me me' : Me (Option N) (View K N)) : Type 0 where
    pub note : N
    pub was : N
    pub view : me'.0 ≡ record me.0 { moving = (m, Some note) ∷ []; met = (m, was) ∷ me.0.met }
    pub hand : me'.1 ≡ (m, Some note) ∷ me.1
    pub more : Knows tells was note
    pub here : (k : K) → me.0.about ≡ Some k → place note ≡ home k

  abbrev pub took : Step (Option N) → Me (Option N) (View K N) → ℕ → Me (Option N) (View K N) → Type 0
  took st me n me' = (n ≡ 1 → Taken st.word me me') × ((n ≡ 1 → ⊥) → (me' ≡ me) × ((k : K) → me.0.about ≡ Some k → FoundEmpty k st.word me.0))

-- the note that is given back
abbrev pub note_in : {N : Type 0} → List (ℕ × Option N) → List (ℕ × N)
note_in [] = []
note_in ((m, None) ∷ xs) = []
note_in ((m, Some note) ∷ xs) = (m, note) ∷ []

module _ {K N : Type 0} where
  abbrev pub emptied : Step (Option N) → Me (Option N) (View K N) → ℕ → Me (Option N) (View K N) → Type 0
  emptied st me n me' = me' ≡ (record me.0 { held = me.0.moving ++ me.0.held; moving = [] }, rest me.1)

  abbrev pub entered : Step (Option N) → Me (Option N) (View K N) → ℕ → Me (Option N) (View K N) → Type 0
  entered st me n me' = me' ≡ (opened st.word me.0, (st.word, None) ∷ me.1)

  abbrev pub marked : Step (Option N) → Me (Option N) (View K N) → ℕ → Me (Option N) (View K N) → Type 0
  marked st me n me' = me' ≡ (record me.0 { moving = []; set = note_in me.1 ++ me.0.set }, rest me.1)

  abbrev pub replaced : Step (Option N) → Me (Option N) (View K N) → ℕ → Me (Option N) (View K N) → Type 0
  replaced st me n me' = me' ≡ (record me.0 { moving = [] }, rest me.1)

  abbrev pub agreed : Step (Option N) → Me (Option N) (View K N) → ℕ → Me (Option N) (View K N) → Type 0
  agreed st me n me' = (me' ≡ me) × Agrees me.0
