-- What a pass found given up was seen so, and so it leads to what stands.
use Rattle.std.proofs.Common.{◌≡◌, ◌⊎◌, inl, inr, ⊎_elim, ℕ, ◌<◌, ◌≤◌, sym, ◌∙◌, subst, arith, Contains}
use mathlib.Core.Option.{some}
use lib.ListN.{get_elem?}
use Rattle.lock_word.specs.Words.{epoch_of, stage_of, version_of}
use Rattle.core_model.specs.declared.view.Sight.TheVariants.{Stood}
use Rattle.core_model.specs.declared.view.View.{View}
use Rattle.core_model.specs.Layout.{Setting}
use Rattle.core_model.specs.Sound.{Sound}
use Rattle.core_model.specs.State.{State, word}
use Rattle.core_model.specs.Versions.{Leads}
use Rattle.core_halts.specs.Halts.{HaltsStand, HasHalted, SaysHalted}

-- an epoch of this version at HALTED was seen at the anchor
pub record WasHalted {X : Type 0} (s : State X) (a version : ℕ) : Type 0 where
  pub i : ℕ
  pub view : View X
  pub at : get_elem? s.views i ≡ some view
  pub epoch : ℕ
  pub seen : Contains view.seen (Stood a epoch)
  pub version_is : version_of epoch ≡ version
  pub stage_is : stage_of epoch ≡ 4

pub was_halted : {X : Type 0} → (s : State X) → HaltsStand s → (i : ℕ) (v : View X) → get_elem? s.views i ≡ some v → (a version : ℕ)
    → HasHalted a version v.trail → WasHalted s a version
was_halted s h i v at a version f = record {
  i = i;
  view = v;
  at = at;
  epoch = epoch_of f.item.found;
  seen = subst (λ (z : ℕ). Contains v.seen (Stood z (epoch_of f.item.found))) f.saw.at (h.looks i v at f.item f.there f.saw.kind);
  version_is = f.saw.halted.version_is;
  stage_is = f.saw.halted.stage_is;
}

-- HALTED leads on to FREEING and GONE
leads_behind : (g h : ℕ) → g ≡ 4 → Leads g h → (h ≡ 4) ⊎ (4 < h)
leads_behind g h is (inl e) = inl (sym e ∙ is)
leads_behind g h is (inr q) = inr (let l = q.1 in omega arith)

module _ {X : Type 0} (k : Setting X) (s : State X) (so : Sound k s) (a version : ℕ) (was : WasHalted s a version) where
  pub inside : a < k.anchors
  inside = so.anchors.seen.inside was.i was.view was.at (Stood a was.epoch) was.seen

  -- while the version stands it is given up still, or is given back
  pub leads_on : version_of (epoch_of (word s a)) ≡ version → (stage_of (epoch_of (word s a)) ≡ 4) ⊎ (4 < stage_of (epoch_of (word s a)))
  leads_on same = leads_behind (stage_of was.epoch) (stage_of (epoch_of (word s a))) was.stage_is
      (so.sights.stages was.i was.view was.at a was.epoch inside was.seen (was.version_is ∙ sym same))

  pub stays_halted : version_of (epoch_of (word s a)) ≡ version → stage_of (epoch_of (word s a)) ≤ 4 → SaysHalted version (word s a)
  stays_halted same le = ⊎_elim
      (λ (e : stage_of (epoch_of (word s a)) ≡ 4). record { version_is = same; stage_is = e })
      (λ (l : 4 < stage_of (epoch_of (word s a))). absurd (omega arith))
      (leads_on same)
