-- A version that was seen doomed at FREEING is over: what stands at its anchor is not below it, no tab writes it, and no pass holds it.
use Rattle.std.proofs.Common.{◌≡◌, ◌≢◌, inl, inr, ⊎_elim, ℕ, ◌<◌, ◌≤◌, sym, refl, ap, ◌∙◌, subst, arith, Contains, Bool, true, false, cond}
use mathlib.Core.Option.{some}
use mathlib.Core.Logic.{dite}
use native.Mathlib.Decide.{ℕ_discrete}
use lib.ListN.{get_elem?}
use Rattle.lock_word.specs.Words.{epoch_of, stage_of, version_of}
use Rattle.core_model.specs.declared.tab.Tab.TheVariants.{Writing}
use Rattle.core_model.specs.declared.tab.Writer.{Writer}
use Rattle.core_model.specs.declared.view.Sight.TheVariants.{Stood}
use Rattle.core_model.specs.declared.view.View.{View}
use Rattle.core_model.specs.Layout.{Setting}
use Rattle.core_model.specs.State.{State, word}
use Rattle.core_model.specs.Holders.{IsTab}
use Rattle.core_model.specs.Sound.{Sound}
use Rattle.core_model.specs.Versions.{IsSighted, Leads}
use Rattle.core_model.proofs.Matching.{matches_writer}
use Rattle.core_wiped.specs.Wipes.{IsOver, IsPast, WasFreed}

low_stage : (b : Bool) → cond b 2 1 ≤ 2
low_stage true = omega arith
low_stage false = omega arith

leads_late : (g h : ℕ) → g ≡ 5 → Leads g h → 5 ≤ h
leads_late g h e (inl q) = omega arith
leads_late g h e (inr q) = let z = q.1 in omega arith

module _ {X : Type 0} (k : Setting X) (s : State X) (so : Sound k s) (a version : ℕ) (f : WasFreed s.views a version) where
  anchor : a < k.anchors
  anchor = so.anchors.seen.inside f.seen.i f.seen.view f.seen.at (Stood a f.epoch) f.seen.seen

  pub sighted : IsSighted s a version
  sighted = record {
    i = f.seen.i;
    view = f.seen.view;
    at = f.seen.at;
    sight = Stood a f.epoch;
    seen = f.seen.seen;
    anchor =
        refl;
    version_is = f.version_is;
  }

  past : IsPast s a version
  past = let low = so.anchors.seen.known f.seen.i f.seen.view f.seen.at (Stood a f.epoch) f.seen.seen in
      let up = so.anchors.seen.epochs f.seen.i f.seen.view f.seen.at a anchor in
      let e = f.version_is in
      dite (ℕ_discrete (version_of (epoch_of (word s a))) version)
      (λ q. inr (
        q,
        leads_late (stage_of f.epoch) (stage_of (epoch_of (word s a))) f.stage_is
            (so.sights.stages f.seen.i f.seen.view f.seen.at a f.epoch anchor f.seen.seen (e ∙ sym q)),
      ))
      (λ ne. inl (omega arith))

  unwritten : (i t : ℕ) (w : Writer X) → IsTab s i t (Writing w) → w.version ≢ version
  unwritten i t w tab e = let m = matches_writer k s so.anchors i t w tab in
      let new = (so.cells.writers i tab.view tab.at t (Writing w) tab.there).drawn in
      let here : a ≡ w.anchor = so.anchors.held.one_anchor a w.anchor w.version new (inr (subst (IsSighted s a) (sym e) sighted))
      (inl (m.0, m.1.version_is)) in
      let v = m.1.version_is in let g = m.1.stage_is in let low = low_stage w.is_appending in
      let same = ap (λ (n : ℕ). epoch_of (word s n)) here in
      ⊎_elim (λ (q : version < version_of (epoch_of (word s a))). omega arith)
      (λ (q : (version_of (epoch_of (word s a)) ≡ version) × (5 ≤ stage_of (epoch_of (word s a)))). let y = q.1 in omega arith) past

  unheld : (i : ℕ) (v : View X) → get_elem? s.views i ≡ some v → Contains v.held version → ⊥
  unheld i v at held = (so.anchors.held.fresh i v at version held).unknown a (inr sighted)

  pub over : IsOver k s a version
  over = record { anchor = anchor; past = past; unwritten = unwritten; unheld = unheld }
