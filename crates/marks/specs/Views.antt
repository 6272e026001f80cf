-- What a seat knows, and what becomes of it.
use Rattle.std.specs.Prelude.{◌≡◌, ℕ, ◌==◌, Bool, not, Option, Some, None, zero, suc, List, [], ◌∷◌, ◌++◌}
use Rattle.std.specs.List.{Contains, filter}
use Rattle.marks.specs.declared.view.View.{View}

-- the marks below n, with no note
abbrev pub marks_below : {N : Type 0} → ℕ → List (ℕ × Option N)
marks_below zero = []
marks_below (suc n) = (n, None) ∷ marks_below n

-- the first seat may set each mark
abbrev pub opening_view : {K N : Type 0} → K → View K N
opening_view about = record { about = Some about; held = marks_below 64; moving = []; set = []; met = [] }

abbrev pub spent : {K N : Type 0} → View K N
spent = record { about = None; held = []; moving = []; set = []; met = [] }

module _ {K N : Type 0} where
  -- the marks that the test picks go to a new seat
  abbrev pub dealer : (ℕ → Bool) → View K N → View K N
  dealer picks v = record v { held = filter (λ r. not (picks r.0)) v.held }

  abbrev pub dealt : (ℕ → Bool) → View K N → View K N
  dealt picks v = record { about = v.about; held = filter (λ r. picks r.0) v.held; moving = []; set = []; met = [] }

  abbrev pub joined : View K N → View K N → View K N
  joined v w = record v { held = v.held ++ w.held; set = v.set ++ w.set; met = v.met ++ w.met }

  -- an empty place is taken, to put a note there
  abbrev pub opened : ℕ → View K N → View K N
  opened m v = record v { held = filter (λ r. not (r.0 == m)) v.held; moving = filter (λ r. r.0 == m) v.held }

  -- the seat set a mark, and may not set it again
  abbrev pub after_set : ℕ → N → View K N → View K N
  after_set m note v = record v { held = filter (λ r. not (r.0 == m)) v.held; set = (m, note) ∷ v.set }

  -- the seat put a note back
  abbrev pub after_put : ℕ → View K N → View K N
  after_put m v = record v { held = filter (λ r. not (r.0 == m)) v.held }

  -- the seat met a mark, where `was` had been set, and took out the note that lay there
  abbrev pub after_met : ℕ → N → N → View K N → View K N
  after_met m was note v = record v { held = (m, Some note) ∷ v.held; met = (m, was) ∷ v.met }

  -- the notes that were set are the same, wherever the seat knows of them
  abbrev pub Agrees : View K N → Type 0
  Agrees v = (m : ℕ) (a b : N) → Contains (v.set ++ v.met) (m, a) → Contains (v.set ++ v.met) (m, b) → a ≡ b
