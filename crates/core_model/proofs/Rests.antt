-- What is being given back of an anchor is at one inner tab.
use Rattle.std.proofs.Common.{◌≡◌, ◌⊎◌, inl, inr, ℕ, sym, refl, ap, ◌∙◌, arith, true, false}
use mathlib.Core.Option.{some}
use lib.ListN.{get_elem?}
use Rattle.lock_word.specs.Words.{epoch_of, stage_of}
use Rattle.core_model.specs.declared.tab.Freer.{Freer}
use Rattle.core_model.specs.declared.tab.Tab.TheVariants.{Writing, Freeing}
use Rattle.core_model.specs.Layout.{Setting}
use Rattle.core_model.specs.State.{State, word}
use Rattle.core_model.specs.Spots.{IsReplaced}
use Rattle.core_model.specs.Slots.{writes_at, SlotsSound}
use Rattle.core_model.specs.Sound.{AnchorsSound}
use Rattle.core_model.proofs.Lists.{sum_some}
use Rattle.core_model.proofs.Matching.{one_freer}
use Rattle.core_model.proofs.SlotAnchors.{writer_is, sole_writer, replaces_at, freer_stage}
use Rattle.core_model.specs.Holders.{IsTab}

module _ {X : Type 0} (k : Setting X) (s : State X) (so : AnchorsSound k s) (sl : SlotsSound k s) where
  abbrev stage_at : ℕ → ℕ
  stage_at a = stage_of (epoch_of (word s a))

  -- the tab of the same pass that writes where an entry is replaced
  pub replaced : (i t : ℕ) (f : Freer X) → IsTab s i t (Freeing f) → f.is_freeing ≡ false → IsReplaced s i f.anchor
  replaced i t f x not = let r = replaces_at k s so sl i x.view x.at t f x.there not in let c = sum_some (writes_at f.anchor) x.view.tabs (let m = r.mine in omega arith) in let y = writer_is f.anchor c.item c.some_ in
      let there : get_elem? x.view.tabs c.i ≡ some (Writing y.0) = c.at ∙ ap some y.1 in let u = r.unused c.i y.0 there y.2 in record {
        t = c.i;
        writer = y.0;
        tab = record { view = x.view; at = x.at; there = there };
        anchor_is = y.2;
        stage_is = r.taken;
        reserved = u.0;
        published = u.1;
      }

  -- two inner tabs never give back slots of one anchor
  pub one_rest : (i j t p : ℕ) (f g : Freer X) → IsTab s i t (Freeing f) → IsTab s j p (Freeing g) → f.anchor ≡ g.anchor → (i ≡ j) × (t ≡ p)
  one_rest i j t p f g x y same = by_stage (freer_stage k s so sl i x.view x.at t f x.there) (freer_stage k s so sl j y.view y.at p g y.there)
    where
      stages : stage_at f.anchor ≡ stage_at g.anchor
      stages = ap stage_at same

      by_stage : ((f.is_freeing ≡ true) × (stage_at f.anchor ≡ 5)) ⊎ ((f.is_freeing ≡ false) × (stage_at f.anchor ≡ 1)) → ((g.is_freeing ≡ true) × (stage_at g.anchor ≡ 5)) ⊎ ((g.is_freeing ≡ false) × (stage_at g.anchor ≡ 1)) → (i ≡ j) × (t ≡ p)
      by_stage (inl a) (inl b) = one_freer k s so g.anchor i j t p f g (so.tabs j y.view y.at p (Freeing g) y.there).0 x y same refl a.0 b.0
      by_stage (inl a) (inr b) = absurd (let e = stages in let z = a.1 in let z' = b.1 in omega arith)
      by_stage (inr a) (inl b) = absurd (let e = stages in let z = a.1 in let z' = b.1 in omega arith)
      by_stage (inr a) (inr b) = let m = replaced i t f x a.0 in let n = replaced j p g y b.0 in
          let one = sole_writer k s so sl i m.tab.view m.tab.at m.t m.writer m.tab.there j n.tab.view n.tab.at n.t n.writer n.tab.there (m.anchor_is ∙ same ∙ sym n.anchor_is) in
          (one.0, (so.tabs i x.view x.at t (Freeing f) x.there).1 ∙ sym (so.tabs j y.view y.at p (Freeing g) y.there).1)
