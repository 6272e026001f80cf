-- A state has a log, whatever becomes of it.
use Rattle.std.proofs.Common.{◌≡◌, ⊎_elim, ℕ, ◌<◌, ◌^◌, List, [], ◌++◌, Contains}
use mathlib.Core.Option.{some}
use lib.ListN.{get_elem?}
use Rattle.rebuild_model.specs.declared.rebuilt.Rebuilt.{Rebuilt}
use Rattle.core_log.proofs.Wiped.{wiped}
use Rattle.core_model.specs.declared.tab.Freer.{Freer}
use Rattle.core_model.specs.declared.moves.Move.{Move}
use Rattle.core_model.specs.declared.tab.Hold.{Hold}
use Rattle.core_model.specs.declared.tab.Writer.{Writer}
use Rattle.core_model.specs.declared.view.View.{View}
use Rattle.core_model.specs.Layout.{Setting}
use Rattle.core_model.specs.State.{State}
use Rattle.core_model.specs.Anchors.{IsSetting}
use Rattle.core_model.specs.Offers.{ChoosesRight, Offering, OffersStand}
use Rattle.core_model.specs.Opening.{IsOpened}
use Rattle.core_model.specs.Sound.{Sound}
use Rattle.core_model.specs.Steps.{after}
use Rattle.core_model.specs.Table.{MayStep}
use Rattle.core_model.specs.TableForms.{MayRewrite, renewed, with_held, MayBlank, with_wiped}
use Rattle.core_model.proofs.Lists.{contains_none}
use Rattle.core_model.proofs.NotesFrame.{Renews}
use Rattle.core_log.specs.Keeps.{HasLog}
use Rattle.core_log.specs.Logged.{logged_now}
use Rattle.core_log.proofs.KeepsKept.{log_keeps_to}
use Rattle.core_log.proofs.LinksKept.{new_is, split}
use Rattle.core_log.proofs.LogsKept.{logs_kept}
use Rattle.core_log.proofs.LogOpened.{no_log}
use Rattle.core_log.proofs.NotesLogged.{renews_logged}
use Rattle.core_log.proofs.Rewritten.{rewritten}
use Rattle.core_log.proofs.Within.{new_within}

module _ {X : Type 0} (o : Offering) (k : Setting X) (s : State X) where
  -- an allowed step whose piece keeps to its offer, if it logs one
  pub log_after : (i : ℕ) (v : View X) (m : Move) → Sound k s → OffersStand o k s → get_elem? s.views i ≡ some v → MayStep k s v m → ChoosesRight o v m → HasLog o k s → HasLog o k (after k s i v m)
  log_after i v m so st at may right h = record {
    log = logged_now k s v m ++ h.log;
    stands = logs_kept k s h.log i v m so h.stands at may;
    keeps = log_keeps_to o k s h.log i v so st h.stands.links h.keeps at m may.allowed right;
    within = λ l c. ⊎_elim (λ (q : Contains (logged_now k s v m) l). new_within k s h.log i v so h.stands.links at may.pass m may.allowed l (new_is k s h.log i v so h.stands.links at m may.allowed l q)) (λ (q : Contains h.log l). h.within l q) (split (logged_now k s v m) h.log l c);
  }

  -- views that tell nothing new
  pub log_renewed : (views : List (View X)) → Renews k s views → HasLog o k s → HasLog o k (renewed s views)
  log_renewed views r h = record { log = h.log; stands = renews_logged k s h.log views r h.stands; keeps = h.keeps; within = h.within }

  -- another cell in the hands of a tab
  pub log_rewritten : (i t : ℕ) (v : View X) (w : Writer X) (old new : Hold X) → Sound k s → get_elem? s.views i ≡ some v → MayRewrite k v t w old new → HasLog o k s → HasLog o k (with_held s i v t w new)
  log_rewritten i t v w old new so at may h = record { log = h.log; stands = rewritten k s h.log i t v w old new so h.stands at may; keeps = h.keeps; within = h.within }

  pub log_wiped : (i t : ℕ) (v : View X) (f : Freer X) (old new : Hold X) → Sound k s → get_elem? s.views i ≡ some v → MayBlank k v t f old new → HasLog o k s → HasLog o k (with_wiped s i v t f new)
  log_wiped i t v f old new so at may h = record { log = h.log; stands = wiped k s h.log i t v f old new so h.stands at may; keeps = h.keeps; within = h.within }

  -- a store that was just opened
  pub log_opened : (r : Rebuilt) → IsSetting k → IsOpened k r s → Sound k s → k.slots < 2 ^ 32 → HasLog o k s
  log_opened r is opened so few = record { log = []; stands = no_log k r s is opened so few; keeps = record { each = λ l c. absurd (contains_none l c) }; within = λ l c. absurd (contains_none l c) }
