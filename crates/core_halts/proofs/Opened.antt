-- In a store that was just opened nobody has found anything.
use Rattle.std.proofs.Common.{◌≡◌, ℕ, zero, suc, ◌+◌, List, [], sym, ap, subst, Contains}
use mathlib.Core.Option.{some, some-injective, some-ne-none}
use lib.ListN.{get_elem?}
use Rattle.core_model.specs.declared.view.Item.{Item}
use Rattle.core_model.specs.declared.view.View.{View}
use Rattle.core_model.specs.Layout.{Setting}
use Rattle.core_model.specs.Opening.{new_view, new_views}
use Rattle.core_model.specs.State.{State}
use Rattle.core_model.proofs.Lists.{contains_none}
use Rattle.core_halts.specs.Halts.{HaltsStand, HasEnd}

module _ {X : Type 0} (k : Setting X) where
  no_step : (n from i : ℕ) (v : View X) → get_elem? (new_views k from n) i ≡ some v → v.trail ≡ []
  no_step zero from i v e = absurd (some-ne-none v (sym e))
  no_step (suc n) from zero v e = ap View.trail (sym (some-injective (new_view k from) v e))
  no_step (suc n) from (suc i) v e = no_step n (from + 1) i v e

  module _ (s : State X) (views : s.views ≡ new_views k 0 k.passes) where
    bare : (i : ℕ) (v : View X) → get_elem? s.views i ≡ some v → v.trail ≡ []
    bare i v at = no_step k.passes 0 i v (subst (λ (z : List (View X)). get_elem? z i ≡ some v) views at)

    pub halts_new : HaltsStand s
    halts_new = record {
      looks = λ i v at x c is. absurd (contains_none x (subst (λ (z : List Item). Contains z x) (bare i v at) c));
      ends = λ i v at a version slot says f c. subst (HasEnd a version slot) (bare i v at) f;
    }
