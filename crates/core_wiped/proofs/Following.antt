-- Of an entry that was wiped: what a crash may leave of any slot.
use Rattle.std.proofs.Common.{◌≡◌, ◌≢◌, inl, inr, ℕ, List, sym, ap, ◌∙◌, subst, Contains}
use mathlib.Core.Logic.{dite}
use native.Mathlib.Decide.{ℕ_discrete}
use Rattle.core_model.specs.declared.tab.Cell.{Cell}
use Rattle.core_model.specs.declared.tab.Piece.{Piece}
use Rattle.core_model.specs.declared.view.LoggedPiece.{LoggedPiece}
use Rattle.core_model.specs.Cells.{IsCell}
use Rattle.core_model.specs.Layout.{Setting}
use Rattle.core_model.specs.State.{State}
use Rattle.core_log.specs.Logged.{HasLogged, IsKnown, LogStands}
use Rattle.core_wiped.specs.Wipes.{BeginsElsewhere, IsLeftOf, IsSeenWiped, IsOfOther, WipesStand}

module _ {X : Type 0} (k : Setting X) (s : State X) (log : List LoggedPiece) (a version wiped slot : ℕ) (c : Cell X) (x : X)
    (st : LogStands k s log) (ws : WipesStand k s log) (seen : IsSeenWiped s a version wiped) (cell : IsCell s slot c)
    (there : Contains c.possible x) where
  -- at the wiped slot there is none of that version
  here : slot ≡ wiped → IsLeftOf k log version wiped slot x
  here e = of_other ((ws.each a version wiped seen).left c x (subst (λ (n : ℕ). IsCell s n c) e cell) there)
    where
      of_other : IsOfOther k log version wiped x → IsLeftOf k log version wiped slot x
      of_other (inl q) = inr (inr q)
      of_other (inr q) = inr (inl (q.0, subst (λ (n : ℕ). HasLogged log n q.0) (sym e) q.1, inl q.2, q.3))

  -- at another one each piece of that version says so
  elsewhere : slot ≢ wiped → IsLeftOf k log version wiped slot x
  elsewhere ne = of_known (st.cells.possible slot c x cell there)
    where
      begins : (p : Piece) → HasLogged log slot p → BeginsElsewhere version wiped slot p
      begins p h = dite (ℕ_discrete p.version version)
          (λ e. inr (
            ap Piece.first (sym h.piece_is)
                ∙ (ws.each a version wiped seen).first h.link h.among (ap Piece.version h.piece_is ∙ e),
            ne,
          ))
          (λ other. inl other)

      of_known : IsKnown k log slot x → IsLeftOf k log version wiped slot x
      of_known (inl q) = inl q
      of_known (inr (inl q)) = inr (inl (q.0, q.1, begins q.0 q.1, q.2))
      of_known (inr (inr q)) = inr (inr q)

  pub begins_nowhere : IsLeftOf k log version wiped slot x
  begins_nowhere = dite (ℕ_discrete slot wiped) here elsewhere
