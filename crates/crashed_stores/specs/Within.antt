-- What a crash leaves while calls that write slots are under way: within their writes and syncs, and between them.
use Rattle.std.specs.Prelude.{◌<◌, ◌≡◌, ◌⊎◌, ℕ, Contains, List, length}
use mathlib.Core.Option.{some}
use lib.ListN.{get_elem?}
use Rattle.rebuild_model.specs.Image.{image_at}
use Rattle.core_model.specs.declared.tab.Cell.{Cell}
use Rattle.core_model.specs.declared.view.View.{View}
use Rattle.core_model.specs.Cells.{IsCell}
use Rattle.core_model.specs.State.{State}
use Rattle.core_model.specs.Tabs.{tab_at}
use Rattle.core_log.specs.Within.{IsPossible}
use Rattle.store_rule.specs.Ground.{Ground}
use Rattle.store_rule.specs.Turns.{MayReturn}
use Rattle.slice_chain.specs.During.{IsLeftDuring}

-- A tab of a pass has the cell of the slot out in this state, to write it, and a crash leaves this content of what the cell is by then. What
-- the call that writes it says of such a time (`during` of `write_slot`) is `during`.
pub record IsUnderWay (g : Ground (List ℕ)) (s : State (List ℕ)) (slot : ℕ) (content : List ℕ) : Type 0 where
  pub i : ℕ
  pub view : View (List ℕ)
  pub at : get_elem? s.views i ≡ some view
  pub tab : ℕ
  pub before : Cell (List ℕ)  -- as it came out
  pub during : IsLeftDuring g tab slot before view
  pub now : Cell (List ℕ)  -- as it is by then
  pub may : MayReturn g.setting (tab_at view tab) before now
  pub among : Contains now.possible content

-- Each slot has a content that a crash may leave of its cell between two steps, or that of such a call: of any number of calls at once.
pub record IsLeftWithin (g : Ground (List ℕ)) (s : State (List ℕ)) (images : List (List ℕ)) : Type 0 where
  pub many : length images ≡ g.setting.slots
  pub each : (slot : ℕ) (c : Cell (List ℕ)) → slot < g.setting.slots → IsCell s slot c → IsPossible (λ x. x) c (image_at images slot) ⊎ IsUnderWay g s slot (image_at images slot)
