-- In a store that was just opened stages lead on, no names were seen, and no versions are held.
use Rattle.std.proofs.Common.{◌≡◌, ℕ, inl, inr, sym, refl, ap, ◌∙◌, subst, Contains}
use Rattle.lock_word.specs.Words.{epoch_of, stage_of}
use Rattle.rebuild_model.specs.declared.rebuilt.Rebuilt.{Rebuilt}
use Rattle.core_model.specs.declared.moves.Side.{Side}
use Rattle.core_model.specs.declared.view.Sight.TheVariants.{Stood, Named}
use Rattle.core_model.specs.declared.view.View.{View}
use Rattle.core_model.specs.Layout.{Setting}
use Rattle.core_model.specs.State.{State, word}
use Rattle.core_model.specs.Anchors.{IsSetting, opening_epoch}
use Rattle.core_model.specs.Opening.{IsOpened}
use Rattle.core_model.proofs.Lists.{contains_none}
use Rattle.core_model.proofs.Opened.{at_new, sight_is, epoch_is}
use Rattle.core_model.specs.Versions.{SightsLead}

no_name : (a version : ℕ) (side : Side) (value b e : ℕ) → Named a version side value ≡ Stood b e → ⊥
no_name a version side value b e h = cc

pub opens_sights : {X : Type 0} → (k : Setting X) (r : Rebuilt) (s : State X) → IsSetting k → IsOpened k r s → SightsLead k s
opens_sights {X} k r s is o = record {
  stages = λ i v at a e lt h same. inl (ap stage_of ((epoch_is k r s is o a e (inr (i, v, at, h))).1 ∙ sym (epoch_is k r s is o a (epoch_of (word s a)) (inl (lt, refl))).1));
  shown = λ i v at a version side value h new. let q = sight_is k k.anchors (Named a version side value) (subst (λ (w : View X). Contains w.seen (Named a version side value)) (at_new k r s is o i v at).0 h) in
      absurd (no_name a version side value q.0 (opening_epoch k q.0) q.2);
  old = λ i v at a version side value h low. let q = sight_is k k.anchors (Named a version side value) (subst (λ (w : View X). Contains w.seen (Named a version side value)) (at_new k r s is o i v at).0 h) in
      absurd (no_name a version side value q.0 (opening_epoch k q.0) q.2);
  before = λ i v at a version lt h. absurd (contains_none version (subst (λ (w : View X). Contains w.held version) (at_new k r s is o i v at).0 h));
}
