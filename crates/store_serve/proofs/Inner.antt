-- A tab that is not the inner one leaves that as it is.
use Rattle.std.proofs.Common.{◌≡◌, ℕ, ◌∙◌, ◌<◌, List, ap, arith, get_or}
use Rattle.std.specs.Prelude.{◌≢◌}
use Rattle.std.proofs.lemmas.List.{get_or-set_other}
use Rattle.core_model.specs.Tabs.{inner, tab_at, with_tab}
use Rattle.core_model.specs.declared.tab.Tab.{Tab}
use Rattle.core_model.specs.declared.tab.Tab.TheVariants.{Free}
use Rattle.core_model.specs.declared.view.View.{View}

pub not_inner : (t : ℕ) → t < inner → inner ≢ t
not_inner t below same = absurd (omega arith)

module _ {X : Type 0} (t : ℕ) where
  -- a tab that changes alone leaves each other one
  pub other_tab : (v w : View X) (tab : Tab X) (j : ℕ) → j ≢ t → w.tabs ≡ with_tab v t tab → tab_at w j ≡ tab_at v j
  other_tab v w tab j ne is = ap (λ (xs : List (Tab X)). get_or xs j Free) is ∙ get_or-set_other v.tabs t j tab Free ne
