-- A step on one anchor that meets what it owes leaves a sound state.
use Rattle.std.proofs.Common.{◌≡◌, ℕ, List}
use mathlib.Core.Option.{some}
use lib.ListN.{get_elem?}
use Rattle.core_model.specs.declared.tab.Tab.{Tab}
use Rattle.core_model.specs.declared.view.Item.{Item}
use Rattle.core_model.specs.declared.view.Deed.{Deed}
use Rattle.core_model.specs.declared.view.View.{View}
use Rattle.core_model.specs.declared.chain.Chain.{Chain}
use Rattle.core_model.specs.Layout.{Setting}
use Rattle.core_model.specs.State.{State}
use Rattle.core_model.specs.Sound.{AnchorsSound}
use Rattle.core_model.proofs.AnchorStep.{stepped, moved, Owes}
use Rattle.core_model.proofs.AnchorTabs.{shaped, readers, writers, freers, tabs_stand, lasts}
use Rattle.core_model.proofs.AnchorSeen.{seen}
use Rattle.core_model.proofs.AnchorVersions.{drawn_kept, held_kept}
use Rattle.core_model.proofs.AnchorDeeds.{mirror, deeds_kept}

pub at_anchor : {X : Type 0} → (k : Setting X) (s : State X) (i : ℕ) (v : View X) → AnchorsSound k s → get_elem? s.views i ≡ some v
    → (a n' e : ℕ) (tabs : List (Tab X)) (held : List ℕ) (item : Item) (deeds : List Deed) (met : List ℕ) (chains : List Chain)
    → Owes k s i v a n' e tabs held item deeds met chains
    → AnchorsSound k (moved s i (stepped v a n' e tabs held item deeds met) a n' chains)
at_anchor k s i v so at a n' e tabs held item deeds met chains o = record {
  setting = so.setting;
  shaped = shaped k s i v so at a n' e tabs held item deeds met chains o;
  readers = readers k s i v so at a n' e tabs held item deeds met chains o;
  writers = writers k s i v so at a n' e tabs held item deeds met chains o;
  freers = freers k s i v so at a n' e tabs held item deeds met chains o;
  tabs = tabs_stand k s i v so at a n' e tabs held item deeds met chains o;
  lasts = lasts k s i v so at a n' e tabs held item deeds met chains o;
  seen = seen k s i v so at a n' e tabs held item deeds met chains o;
  drawn = drawn_kept k s i v so at a n' e tabs held item deeds met chains o;
  held = held_kept k s i v so at a n' e tabs held item deeds met chains o;
  mirror = mirror k s i v so at a n' e tabs held item deeds met chains o;
  deeds = deeds_kept k s i v so at a n' e tabs held item deeds met chains o;
}
