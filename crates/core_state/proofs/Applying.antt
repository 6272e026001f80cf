-- A core stays sound, whatever its step answers.
use Rattle.std.proofs.Common.{◌≡◌, ℕ, sym, subst, Result, Ok, Err}
use Rattle.std.specs.Prelude.{IfOk, OnErr}
use Rattle.core_model.specs.declared.moves.Move.{Move}
use Rattle.core_model.specs.Layout.{Setting}
use Rattle.core_model.specs.State.{State}
use Rattle.core_model.specs.Steps.{IsStep}
use Rattle.core_model.specs.Sound.{Sound}
use Rattle.core_model.proofs.AllKept.{keeps_sound}
use Rattle.core_table.specs.declared.content.Content.{Content}

pub step_keeps : (k : Setting Content) (s t : State Content) (i n : ℕ) (m : Move) → Sound k s → IsStep k s i m n t → Sound k t
step_keeps k s t i n m so step = subst (Sound k) (sym step.leaves) (keeps_sound k s i step.view m so step.at step.may)

pub still_sound : {E : Type 0} (k : Setting Content) (s t : State Content) (i : ℕ) (m : Move) (r : Result ℕ E)
    → Sound k s → IfOk r (λ n. IsStep k s i m n t) → OnErr r (t ≡ s) → Sound k t
still_sound k s t i m (Ok n) so made same = step_keeps k s t i n m so made
still_sound k s t i m (Err e) so made same = subst (Sound k) (sym same) so
