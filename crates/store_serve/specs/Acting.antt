-- What a pass drew and did between two views.
use Rattle.std.specs.Prelude.{Contains, Option, cond, ◌+◌, ◌≡◌, ◌⊎◌, ℕ}
use Rattle.core_model.specs.Trails.{drawn, draws, has_drawn, is_drawn}
use Rattle.core_model.specs.declared.view.Deed.{Deed}
use Rattle.core_model.specs.declared.view.View.{View}
use Rattle.store_serve.specs.Growing.{GrowsTo}

-- Between the views v and w the pass lost nothing that it knew, drew this version once, or none, and did deeds of its own, each of which
-- is so.
pub record Acted {X : Type 0} (drew : Option ℕ) (P : Deed → Type 0) (v w : View X) : Type 0 where
  pub keeps : GrowsTo v w
  pub drawn : (x : ℕ) → drawn x w.trail ≡ cond (is_drawn x drew) 1 0 + drawn x v.trail
  pub draws : draws w.trail ≡ cond (has_drawn drew) 1 0 + draws v.trail
  pub deeds : (d : Deed) → Contains w.deeds d → Contains v.deeds d ⊎ ((d.pass ≡ v.pass) × P d)
