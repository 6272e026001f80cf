-- Where there is room no search has found all slots taken.
use Rattle.std.proofs.Common.{Some, ap, arith, sum_by, ◌<◌, ◌≡◌, ℕ}
use Rattle.core_model.specs.declared.tab.Tab.TheVariants.{Writing}
use Rattle.core_model.specs.declared.tab.Writer.{Writer}
use Rattle.core_model.specs.Layout.{Setting}
use Rattle.core_model.specs.State.{State}
use Rattle.core_model.specs.Tabs.{count}
use Rattle.core_model.specs.Holders.{IsTab}
use Rattle.core_model.proofs.Lists.{le_sum_at}
use Rattle.core_room.specs.Room.{Room, past, past_in, taken_at}
use Rattle.core_room.proofs.Searching.{none_past_all}

module _ {X : Type 0} (k : Setting X) (capacity : ℕ → ℕ) (s : State X) (room : Room k capacity s) where
  pub no_search_passes : (i t : ℕ) (w : Writer X) (place : ℕ) → IsTab s i t (Writing w) → w.claim ≡ Some place → place < k.slots
  no_search_passes i t w place h at = none_past_all k.slots (taken_at k s) (λ slot. sum_by (count (past_in slot)) s.views) place room.places
      (let a = le_sum_at (past_in k.slots) h.view.tabs t (Writing w) h.there in
      let b = le_sum_at (count (past_in k.slots)) s.views i h.view h.at in let c = ap (past k.slots) at in omega arith)
