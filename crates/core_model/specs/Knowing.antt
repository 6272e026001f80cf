-- What a pass knows with one view and with a later one.
use Rattle.std.specs.Prelude.{Contains, ◌≡◌, ℕ}
use Rattle.core_model.specs.declared.view.Item.{Item}
use Rattle.core_model.specs.declared.view.Sight.{Sight}
use Rattle.core_model.specs.declared.view.View.{View}

-- with the view w a pass knows all that it knew with the view v
pub record KnowsAll {X : Type 0} (v w : View X) : Type 0 where
  pub pass : w.pass ≡ v.pass
  pub seen : (x : Sight) → Contains v.seen x → Contains w.seen x
  pub trail : (x : Item) → Contains v.trail x → Contains w.trail x
  pub met : (a : ℕ) → Contains v.met a → Contains w.met a
