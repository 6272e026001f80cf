-- What holds of wiped slots, with whatever list is the log of the state: what becomes of it by steps, notes, and cells in the
-- hands of tabs.
use Rattle.std.proofs.Common.{◌≡◌, inl, inr, ℕ, List, [], ◌++◌, Contains}
use mathlib.Core.Option.{some}
use lib.ListN.{get_elem?}
use Rattle.rebuild_model.specs.declared.rebuilt.Rebuilt.{Rebuilt}
use Rattle.core_model.specs.declared.moves.Move.{Move}
use Rattle.core_model.specs.declared.tab.Freer.{Freer}
use Rattle.core_model.specs.declared.tab.Hold.{Hold}
use Rattle.core_model.specs.declared.tab.Writer.{Writer}
use Rattle.core_model.specs.declared.view.LoggedPiece.{LoggedPiece}
use Rattle.core_model.specs.declared.view.View.{View}
use Rattle.core_model.specs.Anchors.{IsSetting}
use Rattle.core_model.specs.Layout.{Setting}
use Rattle.core_model.specs.Opening.{IsOpened}
use Rattle.core_model.specs.Sound.{Sound}
use Rattle.core_model.specs.State.{State}
use Rattle.core_model.specs.Steps.{after}
use Rattle.core_model.specs.Table.{MayStep}
use Rattle.core_model.specs.TableForms.{MayBlank, MayRewrite, renewed, with_held, with_wiped}
use Rattle.core_model.proofs.NotesFrame.{Renews}
use Rattle.core_log.specs.Logged.{IsLogOf, LogStands, logged_now}
use Rattle.core_log.proofs.LogsKept.{logs_kept}
use Rattle.core_log.proofs.NotesLogged.{renews_logged}
use Rattle.core_log.proofs.Rewritten.{rewritten}
use Rattle.core_log.proofs.Wiped.{wiped}
use Rattle.core_wiped.specs.Wipes.{HasWipes, IsOfOther, WipesStand}
use Rattle.core_wiped.proofs.WipesKept.{wipes_kept}
use Rattle.core_wiped.proofs.Opening.{no_wipes}
use Rattle.core_wiped.proofs.Quiet.{blanked_wipes, renews_wipes, written_wipes}

module _ {X : Type 0} (k : Setting X) (s : State X) (log : List LoggedPiece) (of : IsLogOf s.views log) (ws : WipesStand k s log) where
  among : (more : List LoggedPiece) → IsLogOf s.views more → (l : LoggedPiece) → Contains log l → Contains more l
  among more m l c = m.all l (of.seen l c)

  other : (more : List LoggedPiece) → IsLogOf s.views more → (version slot : ℕ) (x : X) → IsOfOther k log version slot x
      → IsOfOther k more version slot x
  other more m version slot x (inl e) = inl e
  other more m version slot x (inr q) = let h = q.1 in
      inr (q.0, record { link = h.link; among = among more m h.link h.among; slot_is = h.slot_is; piece_is = h.piece_is }, q.2, q.3)

  pub any_log : HasWipes k s
  any_log more m = record {
    each = λ a version slot h. let is = ws.each a version slot h in record {
      freed = is.freed;
      inside = is.inside;
      first = λ l c. is.first l (of.all l (m.seen l c));
      left = λ c x cell q. other more m version slot x (is.left c x cell q);
    };
    starts = λ l c. ws.starts l (of.all l (m.seen l c));
    deeds = ws.deeds;
    choices = ws.choices;
    filled = ws.filled;
  }

module _ {X : Type 0} (k : Setting X) (s : State X) (log : List LoggedPiece) (so : Sound k s) (st : LogStands k s log)
    (ws : HasWipes k s) where
  pub wipes_after : (i : ℕ) (v : View X) (m : Move) → get_elem? s.views i ≡ some v → MayStep k s v m → HasWipes k (after k s i v m)
  wipes_after i v m at may = any_log k (after k s i v m) (logged_now k s v m ++ log) (logs_kept k s log i v m so st at may).of
      (wipes_kept k s log i v m so st (ws log st.of) at may)

  pub wipes_rewritten : (i t : ℕ) (v : View X) (w : Writer X) (old new : Hold X) → get_elem? s.views i ≡ some v → MayRewrite k v t w old new
      → HasWipes k (with_held s i v t w new)
  wipes_rewritten i t v w old new at may = any_log k (with_held s i v t w new) log (rewritten k s log i t v w old new so st at may).of
      (written_wipes k s log i t v old new so st (ws log st.of) at w may)

  pub wipes_wiped : (i t : ℕ) (v : View X) (f : Freer X) (old new : Hold X) → get_elem? s.views i ≡ some v → MayBlank k v t f old new
      → HasWipes k (with_wiped s i v t f new)
  wipes_wiped i t v f old new at may = any_log k (with_wiped s i v t f new) log (wiped k s log i t v f old new so st at may).of
      (blanked_wipes k s log i t v old new so st (ws log st.of) at f may)

  pub wipes_renewed : (views : List (View X)) → Renews k s views → HasWipes k (renewed s views)
  wipes_renewed views r = any_log k (renewed s views) log (renews_logged k s log views r st).of
      (renews_wipes k s log views r (ws log st.of))

pub wipes_opened : {X : Type 0} → (k : Setting X) (r : Rebuilt) (s : State X) → IsSetting k → IsOpened k r s → LogStands k s []
    → HasWipes k s
wipes_opened k r s is o st = any_log k s [] st.of (no_wipes k r s is o)
