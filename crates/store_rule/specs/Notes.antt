-- What becomes of views where a note is made and learned, and where a pass is cut off.
use Rattle.std.specs.Prelude.{List, [], ◌∷◌}
use Rattle.core_model.specs.declared.view.Kind.TheVariants.{Noted, Learned}
use Rattle.core_model.specs.declared.view.Sight.{Sight}
use Rattle.core_model.specs.declared.view.View.{View}
use Rattle.core_model.specs.CellMoves.{note_of}
use Rattle.core_model.specs.TableForms.{learns}
use Rattle.store_rule.specs.Told.{the_view}

module _ {X : Type 0} where
  -- a pass made a note, or learned what one has seen: these items tell no number
  abbrev pub noting : View X → View X
  noting v = learns v [] record { kind = Noted; at = 0; found = 0 }

  abbrev pub learning : View X → List Sight → View X
  learning v sights = learns v sights record { kind = Learned; at = 0; found = 0 }

  -- the rows of two seats after that
  abbrev pub noting_row : List (View X) → List (View X)
  noting_row row = noting (the_view row) ∷ []

  abbrev pub note_row : List (View X) → List (View X)
  note_row row = note_of (the_view row) ∷ []

  abbrev pub learning_row : List (View X) → List (View X) → List (View X)
  learning_row row other = learning (the_view row) (the_view other).seen ∷ []

  -- the first view of a row is cut off
  abbrev pub others : List (View X) → List (View X)
  others [] = []
  others (v ∷ vs) = vs

  abbrev pub first_row : List (View X) → List (View X)
  first_row row = the_view row ∷ []
