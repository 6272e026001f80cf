-- How many steps of each kind a call adds to the trail of its pass.
use Rattle.std.specs.Prelude.{Bool, List, [], cond, ◌+◌, ◌∷◌, ◌≡◌, ℕ}
use Rattle.core_model.specs.declared.view.Item.{Item}
use Rattle.core_model.specs.declared.view.Kind.{Kind}
use Rattle.core_model.specs.declared.view.Kind.TheVariants.{Disowned, Followed, Linked}
use Rattle.core_model.specs.declared.view.View.{View}

-- how many of these items are of the kinds that are asked for
abbrev pub of_kinds : (Kind → Bool) → List Item → ℕ
of_kinds asked [] = 0
of_kinds asked (x ∷ xs) = cond (asked x.kind) 1 0 + of_kinds asked xs

-- how many of n steps of this kind are: all of them, or none
abbrev pub many : (Kind → Bool) → Kind → ℕ → ℕ
many asked kind n = cond (asked kind) n 0

-- of n slots of a chain each had its link looked at, left the chain, and was given back
abbrev pub slots_freed : (Kind → Bool) → ℕ → ℕ
slots_freed asked n = many asked Followed n + many asked Linked n + many asked Disowned n

-- whichever kinds are asked for, the trail of w has so many more items of them than that of v
abbrev pub AddsSteps : {X : Type 0} → View X → View X → ((Kind → Bool) → ℕ) → Type 0
AddsSteps v w number = (asked : Kind → Bool) → of_kinds asked w.trail ≡ of_kinds asked v.trail + number asked
