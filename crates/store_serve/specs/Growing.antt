-- How what a pass knows grows.
use Rattle.std.specs.Prelude.{Contains, List, ◌++◌, ◌≡◌, ℕ}
use Rattle.core_model.specs.declared.view.Item.{Item}
use Rattle.core_model.specs.declared.view.Sight.{Sight}
use Rattle.core_model.specs.declared.view.View.{View}

-- with the view w a pass knows all that it knew with the view v, and in its trail later steps stand in front of those of v
pub record GrowsTo {X : Type 0} (v w : View X) : Type 0 where
  pub pass : w.pass ≡ v.pass
  pub seen : (x : Sight) → Contains v.seen x → Contains w.seen x
  pub trail : (later : List Item) × (w.trail ≡ later ++ v.trail)
  pub met : (a : ℕ) → Contains v.met a → Contains w.met a
