-- A step keeps all that holds of wiped slots.
use Rattle.std.proofs.Common.{◌≡◌, ◌≢◌, inl, inr, ⊎_elim, ℕ, List, [], ◌∷◌, ◌++◌, sym, ap, ◌∙◌, subst, Contains}
use mathlib.Core.Option.{some}
use lib.ListN.{get_elem?}
use Rattle.core_model.specs.declared.moves.Move.{Move}
use Rattle.core_model.specs.declared.tab.Piece.{Piece}
use Rattle.core_model.specs.declared.view.LoggedPiece.{LoggedPiece}
use Rattle.core_model.specs.declared.view.Sight.TheVariants.{Stood, Wiped}
use Rattle.core_model.specs.declared.view.View.{View}
use Rattle.core_model.specs.Layout.{Setting}
use Rattle.core_model.specs.Sound.{Sound}
use Rattle.core_model.specs.State.{State}
use Rattle.core_model.specs.Steps.{after, finding}
use Rattle.core_model.specs.Table.{MayStep, sights_of}
use Rattle.core_model.proofs.AllKept.{keeps_sound}
use Rattle.std.proofs.lemmas.List.Elements.{Contains-append_right}
use Rattle.core_log.specs.Logged.{HasLogged, IsLoggedRun, LogStands, PassMove, logged_now}
use Rattle.core_log.specs.Seen.{IsSeen}
use Rattle.core_log.proofs.KnownStays.{stays_seen, was_seen}
use Rattle.core_log.proofs.LinksKept.{my_tab, new_is, split}
use Rattle.core_log.proofs.LogsKept.{logs_kept}
use Rattle.core_wiped.specs.Wipes.{IsOfOther, IsWiped, WipesStand}
use Rattle.core_wiped.proofs.Choosing.{choices_kept}
use Rattle.core_wiped.proofs.Filled.{filled_kept}
use Rattle.core_wiped.proofs.Left.{IsChosenAt, IsPossible, chosen_logged, was_left}
use Rattle.core_wiped.proofs.WipedSeen.{EndsWiped, wipe_seen}
use Rattle.core_wiped.proofs.Wiping.{new_wipe}
use Rattle.core_wiped.proofs.Over.{over}
use Rattle.core_wiped.proofs.Seen.{deeds_seen}
use Rattle.core_wiped.proofs.Starts.{starts_kept}

-- what was logged stays
pub later : (new log : List LoggedPiece) (slot : ℕ) (p : Piece) → HasLogged log slot p → HasLogged (new ++ log) slot p
later new log slot p h = record {
  link = h.link;
  among = Contains-append_right new log h.link h.among;
  slot_is = h.slot_is;
  piece_is =
      h.piece_is;
}

module _ {X : Type 0} (k : Setting X) where
  pub other_later : (new log : List LoggedPiece) (version slot : ℕ) (x : X) → IsOfOther k log version slot x
      → IsOfOther k (new ++ log) version slot x
  other_later new log version slot x (inl e) = inl e
  other_later new log version slot x (inr q) = inr (q.0, later new log slot q.0 q.1, q.2, q.3)

  -- what a tab writes is of another version than one that is over
  pub chosen_other : (s : State X) (log : List LoggedPiece) (so : Sound k s) (st : LogStands k s log) (ws : WipesStand k s log)
      (a version slot j : ℕ) (x : X) → IsWiped k s log a version slot → IsChosenAt k s j x → IsOfOther k log version j x
  chosen_other s log so st ws a version slot j x is c = inr (
    c.piece,
    chosen_logged k s log st.cells j x c,
    (λ e. (over k s so a version is.freed).unwritten c.i c.t c.writer c.tab (sym (ws.choices c.i c.t c.writer c.piece c.tab c.chosen) ∙ e)),
    c.is,
  )

module _ {X : Type 0} (k : Setting X) (s : State X) (log : List LoggedPiece) (i : ℕ) (v : View X) (m : Move) (so : Sound k s)
    (st : LogStands k s log) (ws : WipesStand k s log) (at : get_elem? s.views i ≡ some v) (may : MayStep k s v m) where
  -- no piece of a version that is over is logged
  pub not_logged : (a version slot : ℕ) → IsWiped k s log a version slot → (l : LoggedPiece) → Contains (logged_now k s v m) l
      → l.piece.version ≢ version
  not_logged a version slot is l c e = let n = new_is k s log i v so st.links at m may.allowed l c in
      (over k s so a version is.freed).unwritten i n.t n.writer (my_tab k s log i v so st.links at n.t n.writer n.is)
      (sym (ap Piece.version n.piece_is) ∙ e)

  old_wipe : (a version slot : ℕ) → IsWiped k s log a version slot → IsWiped k (after k s i v m) (logged_now k s v m ++ log) a version slot
  old_wipe a version slot is = record {
    freed = record {
      epoch = is.freed.epoch;
      seen = stays_seen k s i v at may.pass m may.allowed
          (Stood a is.freed.epoch) is.freed.seen;
      version_is = is.freed.version_is;
      stage_is = is.freed.stage_is;
      doom_is =
          is.freed.doom_is;
    };
    inside = is.inside;
    first = λ l c same. ⊎_elim
        (λ (q : Contains (logged_now k s v m) l). absurd (not_logged a version slot is l q same))
        (λ (q : Contains log l). is.first l q same)
        (split (logged_now k s v m) log l c);
    left = λ c x cell q. other_later k (logged_now k s v m) log version slot x (⊎_elim
        (λ (z : IsPossible k s slot x). is.left z.cell x z.is z.possible)
        (⊎_elim
        (λ (z : IsChosenAt k s slot x). chosen_other k s log so st ws a version slot slot x is z)
        (λ (z : x ≡ k.blank). inl z))
        (was_left k s log i v so st.cells at m may.allowed slot c x cell q));
  }

  pub wipes_kept : WipesStand k (after k s i v m) (logged_now k s v m ++ log)
  wipes_kept = record {
    each = λ a version slot seen. ⊎_elim
        (λ (q : IsSeen s.views (Wiped a version slot)). old_wipe a version slot (ws.each a version slot q))
        (λ (q : Contains (sights_of v m (finding k s v m)) (Wiped a version slot)). ⊎_elim
        (λ (z : EndsWiped m v a version slot). new_wipe k s log i v m so st at may.allowed a version slot z ws may.pass)
        (λ (z : IsSeen s.views (Wiped a version slot)). old_wipe a version slot (ws.each a version slot z))
        (wipe_seen k s i v at a version slot m may.allowed q))
        (was_seen k s i v at may.pass m (Wiped a version slot) seen);
    starts = starts_kept k s log i v m so st.links ws.starts at may.pass may.allowed;
    deeds = deeds_seen k s i v at may.pass ws.deeds m may.allowed;
    choices = choices_kept k s i v at m may.allowed ws.choices;
    filled = filled_kept k s i v so at may.pass ws.filled m may.allowed;
  }

-- and so does every run
pub runs_kept : {X : Type 0} → (k : Setting X) (s : State X) (log : List LoggedPiece) (steps : List PassMove) (t : State X)
    (more : List LoggedPiece) → Sound k s → LogStands k s log → WipesStand k s log → IsLoggedRun k s log steps t more
    → WipesStand k t more
runs_kept {X} k s log [] t more so st ws run = subst
    (λ (u : State X). WipesStand k u more) (sym run.0) (subst (WipesStand k s) (sym run.1) ws)
runs_kept k s log (x ∷ xs) t more so st ws run = let v = run.0 in let at = run.1 in let may = run.2 in
    runs_kept k (after k s x.pass v x.move) (logged_now k s v x.move ++ log) xs t more (keeps_sound k s x.pass v x.move so at may)
    (logs_kept k s log x.pass v x.move so st at may) (wipes_kept k s log x.pass v x.move so st ws at may) run.3
