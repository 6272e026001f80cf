-- No writing of a version of the opening was halted.
use Rattle.std.proofs.Common.{arith, inl, inr, refl, ⊎_elim, ◌<◌, ◌≡◌, ◌≤◌, ℕ}
use Rattle.std.proofs.Math.Decide.{dec_le}
use mathlib.Core.Logic.{dite}
use Rattle.lock_word.specs.Words.{stage_of}
use Rattle.core_model.specs.Anchors.{opening_counter, opening_epoch}
use Rattle.core_model.specs.Deeds.{HaltedVersion, IsDone, LeftEpoch}
use Rattle.core_model.specs.Layout.{Setting}
use Rattle.core_model.specs.Sound.{Sound}
use Rattle.core_model.specs.State.{State}

module _ {X : Type 0} (k : Setting X) (s : State X) (sound : Sound k s) where
  pub halted_new : (a x : ℕ) → a < k.anchors → IsDone s (HaltedVersion a x) → opening_counter k < x
  halted_new a x lt h = dite (dec_le x (opening_counter k)) (λ low. absurd (not_old low)) (λ high. omega arith)
    where
      not_old : x ≤ opening_counter k → ⊥
      not_old low =
          let left : IsDone s (LeftEpoch a h.deed.epoch) = record { i = h.i; view = h.view; at = h.at; deed = h.deed; done = h.done; so = ((h.so.1, inr (inl h.so.0)), refl) } in
          let version = h.so.2 in
          let four = h.so.3 in
          ⊎_elim
          (λ (q : stage_of h.deed.epoch ≡ stage_of (opening_epoch k a)). ⊎_elim
          (λ (z : stage_of (opening_epoch k a) ≡ 0). omega arith)
          (λ (z : stage_of (opening_epoch k a) ≡ 3). omega arith)
          (sound.anchors.setting.stage a lt))
          (λ (q : (5 ≤ stage_of h.deed.epoch) × (stage_of (opening_epoch k a) ≡ 3)). let z = q.0 in omega arith)
          (sound.deeds_tell.old a h.deed.epoch left (omega arith)).stage
