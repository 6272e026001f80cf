-- A step at an anchor that is left to its pass finds what the pass has.
use Rattle.std.proofs.Common.{◌≡◌, ◌≢◌, ℕ, ◌<◌, [], ◌++◌, length, Bool, true, Some, Contains, ap, ◌∙◌, arith}
use mathlib.Core.Option.{some}
use lib.ListN.{get_elem?}
use Rattle.core_model.specs.declared.moves.Move.{Move}
use Rattle.core_model.specs.declared.moves.Side.{Side}
use Rattle.core_model.specs.declared.tab.Tab.{Tab}
use Rattle.core_model.specs.declared.view.Place.TheVariants.{Anchor, Beside, Link}
use Rattle.core_model.specs.declared.view.View.{View}
use Rattle.core_model.specs.Layout.{Setting}
use Rattle.core_model.specs.State.{State, chain_of}
use Rattle.core_model.specs.Steps.{number_found}
use Rattle.core_model.specs.Table.{MayStep, place}
use Rattle.core_model.specs.Tabs.{IsPass}
use Rattle.core_model.proofs.StepPlaces.{found_at}
use Rattle.core_alone.specs.Alone.{HoldsSlot, IsTabAt, KnowsAlone, StandsAlone, has_word}

pub has_tabs : {X : Type 0} → (v : View X) → IsPass v → v.tabs ≢ []
has_tabs v pass e = absurd (let l = pass in let z = ap length e in omega arith)

module _ {X : Type 0} (left : ℕ → ℕ → Bool) (k : Setting X) (s : State X) (i : ℕ) (v : View X) (m : Move) (alone : StandsAlone left k s)
    (at : get_elem? s.views i ≡ some v) (may : MayStep k s v m) where
  mine : KnowsAlone left k s v
  mine = alone.each i v at (has_tabs v may.pass)

  pub finds_word : (a : ℕ) → a < k.anchors → left v.pass a ≡ true → place v m ≡ Some (Anchor a)
      → number_found k s v m ≡ has_word k v (Anchor a)
  finds_word a lt is on = found_at k s v m (Anchor a) on ∙ mine.word a lt is

  pub finds_side : (side : Side) (a : ℕ) → a < k.anchors → left v.pass a ≡ true → place v m ≡ Some (Beside side a)
      → number_found k s v m ≡ has_word k v (Beside side a)
  finds_side side a lt is on = found_at k s v m (Beside side a) on ∙ mine.sides side a lt is

  pub finds_link : (a slot : ℕ) → a < k.anchors → left v.pass a ≡ true → Contains ((chain_of s a).slots ++ (chain_of s a).tail) slot
      → place v m ≡ Some (Link slot) → number_found k s v m ≡ has_word k v (Link slot)
  finds_link a slot lt is c on = found_at k s v m (Link slot) on ∙ mine.links a slot lt is c

  pub finds_held : (t a slot : ℕ) (tab : Tab X) → left v.pass a ≡ true → get_elem? v.tabs t ≡ some tab → IsTabAt tab a → HoldsSlot tab slot
      → place v m ≡ Some (Link slot) → number_found k s v m ≡ has_word k v (Link slot)
  finds_held t a slot tab is there is_at c on = found_at k s v m (Link slot) on ∙ mine.held t a slot tab there is_at is c
