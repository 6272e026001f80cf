-- Which words a step touches, as its pass has them.
use Rattle.std.specs.Prelude.{◌/◌, ◌==◌, ◌∷◌, List, None, Option, Some, [], cond, ℕ}
use Rattle.link_word.specs.Map.{taken_in}
use Rattle.core_model.specs.declared.moves.Move.{Move}
use Rattle.core_model.specs.declared.moves.Move.TheVariants.{Own}
use Rattle.core_model.specs.declared.view.Place.{Place}
use Rattle.core_model.specs.declared.view.Place.TheVariants.{Link, Map}
use Rattle.core_model.specs.declared.view.View.{View}
use Rattle.core_model.specs.Table.{place}

abbrev pub places_in : Option Place → List Place
places_in (Some p) = p ∷ []
places_in None = []

-- the word that it is on, if any, and the link of a slot that it reserves, where it found the word n
abbrev pub touched_by : {X : Type 0} → View X → Move → ℕ → List Place
touched_by v (Own t slot) n = Map (slot / 64) ∷ cond (taken_in n slot == 0) (Link slot ∷ []) []
touched_by v m n = places_in (place v m)
