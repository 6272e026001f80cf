-- What holds of the table of marks between any two steps.
use Rattle.std.specs.Prelude.{◌≡◌, ℕ, ◌<◌, Option, Some, None, List, length, slice_index}
use Rattle.std.specs.List.{Contains}
use mathlib.Core.Option as maybe
use mathlib.Core.Option.{some}
use lib.ListN.{get_elem?}
use Rattle.atomic_table.specs.Table.{State}
use Rattle.marks.specs.declared.view.View.{View}

-- a place is empty, and may be filled by the seat of this number; or that seat moves a note; or a note lies there. Each has the note that was set, if one was
pub data Phase (N : Type 0) : Type 0 where
  idle : ℕ → Option N → Phase N
  busy : ℕ → Option N → Phase N
  full : N → N → Phase N

module _ {N : Type 0} where
  abbrev pub set_by : Phase N → Option N
  set_by (idle i was) = was
  set_by (busy i was) = was
  set_by (full was note) = Some was

  abbrev pub number_of : Phase N → ℕ
  number_of (idle i was) = 0
  number_of (busy i was) = 2
  number_of (full was note) = 1

  -- no note lies there
  abbrev pub IsEmpty : Phase N → Type 0
  IsEmpty (idle i was) = Unit {0}
  IsEmpty (busy i was) = Unit {0}
  IsEmpty (full was note) = ⊥

module _ {N Fact : Type 0} (tells : N → Fact → Type 0) where
  -- the second note tells all that the first does
  abbrev pub Knows : N → N → Type 0
  Knows a b = (fact : Fact) → tells a fact → tells b fact

  -- the note in a seat's hands tells all that the one set did, and there is one exactly where one was set
  abbrev pub Grips : Option N → Option N → Type 0
  Grips None None = Unit {0}
  Grips None (Some note) = ⊥
  Grips (Some was) None = ⊥
  Grips (Some was) (Some note) = Knows was note

  -- the places of these marks are as `phase` says
  abbrev pub Claims : (ℕ → Phase N) → (Option N → Phase N) → List (ℕ × Option N) → Type 0
  Claims phases phase list = (m : ℕ) (x : Option N) → Contains list (m, x) → (was : Option N) × (phases m ≡ phase was) × Grips was x

-- each of these notes was set at its mark
abbrev pub Records : {N : Type 0} → (ℕ → Phase N) → List (ℕ × N) → Type 0
Records {N} phases list = (m : ℕ) (was : N) → Contains list (m, was) → set_by (phases m) ≡ Some was

module _ {K N Fact Place : Type 0} (tells : N → Fact → Type 0) (place : N → Place) (home : K → Place) where
  -- what is in the slot of a place
  abbrev pub Lies : K → Phase N → maybe.Option (maybe.Option (Option N)) → Type 0
  Lies about (idle i was) x = x ≡ some (some None)
  Lies about (busy i was) x = Unit {0}
  Lies about (full was note) x = (x ≡ some (some (Some note))) × Knows tells was note × (place note ≡ home about)

  -- what the seat i knows is so
  pub record Fits (about : K) (phases : ℕ → Phase N) (i : ℕ) (v : View K N) : Type 0 where
    pub key : (k : K) → v.about ≡ Some k → k ≡ about
    pub held : Claims tells phases (idle i) v.held
    pub moving : Claims tells phases (busy i) v.moving
    pub set : Records phases v.set
    pub met : Records phases v.met

  pub record Ruled (about : K) (s : State (Option N) (View K N)) : Type 0 where
    pub phases : ℕ → Phase N
    pub word_count : length s.words ≡ 64
    pub words : (m : ℕ) → m < 64 → slice_index s.words m ≡ number_of (phases m)
    pub slots : (m : ℕ) → m < 64 → Lies about (phases m) (get_elem? s.homes m)
    pub seats : (i : ℕ) (v : View K N) → get_elem? s.views i ≡ some v → Fits about phases i v
