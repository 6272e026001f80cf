-- Whatever steps follow, the log stands.
use Rattle.std.proofs.Common.{List, [], ◌∷◌, ◌++◌, sym, subst}
use Rattle.core_model.specs.declared.view.LoggedPiece.{LoggedPiece}
use Rattle.core_model.specs.Layout.{Setting}
use Rattle.core_model.specs.State.{State}
use Rattle.core_model.specs.Sound.{Sound}
use Rattle.core_model.specs.Steps.{after}
use Rattle.core_model.proofs.AllKept.{keeps_sound}
use Rattle.core_log.specs.Logged.{IsLoggedRun, LogStands, PassMove, logged_now}
use Rattle.core_log.proofs.LogsKept.{logs_kept}

pub runs : {X : Type 0} → (k : Setting X) (s : State X) (log : List LoggedPiece) (steps : List PassMove) (t : State X) (more : List LoggedPiece) → Sound k s → LogStands k s log → IsLoggedRun k s log steps t more
    → Sound k t × LogStands k t more
runs {X} k s log [] t more so st run = (subst (Sound k) (sym run.0) so, subst (λ (u : State X). LogStands k u more) (sym run.0) (subst (LogStands k s) (sym run.1) st))
runs k s log (x ∷ xs) t more so st run = let v = run.0 in let at = run.1 in let may = run.2 in
    runs k (after k s x.pass v x.move) (logged_now k s v x.move ++ log) xs t more (keeps_sound k s x.pass v x.move so at may) (logs_kept k s log x.pass v x.move so st at may) run.3
