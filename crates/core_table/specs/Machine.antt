-- A core as contracts see it: its sizes, the words at its opening, and its state.
use Rattle.std.specs.Prelude.{ℕ, zero, suc, ◌+◌, List, [], ◌∷◌, Option}
use Rattle.core_model.specs.declared.tab.Cell.{Cell}
use Rattle.core_model.specs.declared.view.View.{View}
use Rattle.core_model.specs.declared.chain.Chain.{Chain}
use Rattle.core_model.specs.Layout.{Setting}
use Rattle.core_model.specs.State.{State}
use Rattle.core_table.specs.declared.content.Content.{Content}
use Rattle.core_table.specs.declared.content.Content.TheVariants.{Blank, Opened, Offered}

pub record Machine : Type 0 where
  pub anchors : ℕ
  pub slots : ℕ
  pub passes : ℕ
  pub opening : List ℕ
  pub words : List ℕ
  pub places : List (Option (Cell Content))
  pub views : List (View Content)
  pub chains : List Chain

-- what so many slots hold at the opening, from this one on
abbrev pub opened_from : ℕ → ℕ → List Content
opened_from slot zero = []
opened_from slot (suc n) = Opened slot ∷ opened_from (slot + 1) n

abbrev pub setting_of : Machine → Setting Content
setting_of m = record { anchors = m.anchors; slots = m.slots; passes = m.passes; words = m.opening; contents = opened_from 0 m.slots; image = Offered; blank = Blank }

abbrev pub state_of : Machine → State Content
state_of m = record { words = m.words; places = m.places; views = m.views; chains = m.chains }
