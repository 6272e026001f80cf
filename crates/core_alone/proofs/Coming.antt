-- Which pass may come to an anchor that is left to one: the one that it is left to, since passes have numbers of their own, and the only
-- pass of a store.
use Rattle.std.proofs.Common.{◌≡◌, ℕ, ◌<◌, ◌≤◌, List, [], ◌∷◌, length, Bool, true, refl, arith}
use mathlib.Core.Logic.{dite}
use mathlib.Core.Option.{some}
use native.Mathlib.Decide.{ℕ_discrete}
use lib.ListN.{get_elem?}
use Rattle.core_model.specs.declared.moves.Move.TheVariants.{Draw}
use Rattle.core_model.specs.declared.tab.Tab.{Tab}
use Rattle.core_model.specs.declared.view.View.{View}
use Rattle.core_model.specs.Anchors.{tabs_in}
use Rattle.core_model.specs.Layout.{Setting}
use Rattle.core_model.specs.Sound.{AnchorsSound}
use Rattle.core_model.specs.State.{State}
use Rattle.core_model.specs.Steps.{number_found}
use Rattle.core_model.specs.Tabs.{IsPass}
use Rattle.core_model.specs.Trails.{drawn}
use Rattle.core_model.specs.Versions.{drawn_by}
use Rattle.core_model.proofs.Lists.{le_sum_at, two_le_sum}
use Rattle.core_alone.specs.Alone.{MayCome}
use Rattle.core_alone.proofs.Finding.{has_tabs}

module _ {X : Type 0} (left : ℕ → ℕ → Bool) (k : Setting X) (s : State X) (so : AnchorsSound k s) (i : ℕ) (v : View X)
    (at : get_elem? s.views i ≡ some v) (pass : IsPass v) where
  pub comes_by_number : (a : ℕ) → ((q : ℕ) → left q a ≡ true → q ≡ v.pass) → MayCome left s i a
  comes_by_number a mine j u uat owns = so.deeds.numbers j i u v uat at owns.0 (has_tabs v pass) (mine u.pass owns.1)

  pub comes_lone : k.passes ≡ 1 → (a : ℕ) → MayCome left s i a
  comes_lone one a j u uat owns = dite (ℕ_discrete j i) (λ e. e)
      (λ ne. absurd (owns.0 (none u.tabs (let two = two_le_sum tabs_in s.views i j v u at uat ne in let all = so.shaped.tabs in
      let nine = pass in omega arith))))
    where
      none : (xs : List (Tab X)) → length xs ≡ 0 → xs ≡ []
      none [] h = refl
      none (x ∷ xs) h = absurd (omega arith)

-- A version that a pass drew is at most what any draw finds later, so that the next one is above it.
module _ {X : Type 0} (k : Setting X) (s : State X) (so : AnchorsSound k s) where
  pub drawn_below : (i : ℕ) (v w : View X) (version : ℕ) → get_elem? s.views i ≡ some v → 0 < drawn version v.trail
      → version ≤ number_found k s w Draw
  drawn_below i v w version at drew = let l = le_sum_at (drawn_by version) s.views i v at in (so.drawn.above version (omega arith)).1
