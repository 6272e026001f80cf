-- In a store that was just opened with what a rebuild kept each entry is the opening's, and nothing is offered yet.
use Rattle.std.proofs.Common.{◌≡◌, ⊎_elim, ℕ, ◌<◌, List, length, sym, ap, ◌∙◌, subst, arith, Contains}
use Rattle.store_key.specs.Anchor.{anchor_of}
use Rattle.rebuild_model.specs.Entry.{found_of}
use Rattle.rebuild_model.specs.Rebuilt.{IsRebuilt}
use Rattle.rebuild_model.specs.declared.found.Found.{Found}
use Rattle.rebuild_model.specs.declared.rebuilt.Rebuilt.{Rebuilt}
use Rattle.core_model.specs.declared.tab.Tab.TheVariants.{Free, Writing}
use Rattle.core_model.specs.declared.tab.Writer.{Writer}
use Rattle.core_model.specs.declared.view.Deed.{Deed}
use Rattle.core_model.specs.declared.view.View.{View}
use Rattle.core_model.specs.declared.chain.Chain.{Chain}
use Rattle.core_model.specs.Layout.{Setting}
use Rattle.core_model.specs.State.{State, chain_of}
use Rattle.core_model.specs.Anchors.{IsSetting}
use Rattle.core_model.specs.Deeds.{IsDone, LeftEpoch, EvictedVersion, DeedsTell}
use Rattle.core_model.specs.Opening.{IsOpened, IsKeptAt}
use Rattle.core_model.specs.Offers.{Offering, IsOldEntry, OffersStand}
use Rattle.core_model.proofs.Lists.{contains_none}
use Rattle.core_model.proofs.Opened.{at_new}
use Rattle.core_model.proofs.SlotsOpened.{contains_map}
use Rattle.core_model.proofs.CellsOpened.{numbered, tab_free, old_version, begins_inside}
use Rattle.core_model.specs.Chains.{first_of}

module _ {X : Type 0} (k : Setting X) (r : Rebuilt) (s : State X) (is : IsSetting k) (op : IsOpened k r s) where
  no_deed : (P : Deed → Type 0) → IsDone s P → ⊥
  no_deed P h = let q = at_new k r s is op h.i h.view h.at in contains_none h.deed (subst (λ (v : View X). Contains v.deeds h.deed) q.0 h.done)

  pub opened_deeds : DeedsTell k s
  opened_deeds = record {
    old = λ a e h _. absurd (no_deed (LeftEpoch a e) h);
    taken = λ a e h _. absurd (no_deed (LeftEpoch a e) h);
    halted = λ a e h _. absurd (no_deed (LeftEpoch a e) h);
    begun = λ a e h. absurd (no_deed (LeftEpoch a e) h);
    grown = λ a e h _. absurd (no_deed (LeftEpoch a e) h);
    closed = λ a e h _ _. absurd (no_deed (LeftEpoch a e) h);
    evicted = λ a version _ h. absurd (no_deed (EvictedVersion a version) h);
  }

module _ {X : Type 0} (o : Offering) (k : Setting X) (r : Rebuilt) (s : State X) (is : IsSetting k) (op : IsOpened k r s) (slot : ℕ) (images : List (List ℕ)) (b : IsRebuilt slot images k.anchors r) (as_many : length images ≡ k.slots)
    (chains : (a : ℕ) → a < k.anchors → o.chain a ≡ (chain_of s a).slots) where
  kept_old : (f : Found) → Contains r.winners f → anchor_of f.key k.anchors < k.anchors → IsOldEntry o k s (anchor_of f.key k.anchors)
  kept_old f h lt = record {
    slots = sym (chains (anchor_of f.key k.anchors) lt);
    end = ap Chain.end kept.chain;
    offer = kept.offer ∙ first ∙ ap first_of (sym (chains (anchor_of f.key k.anchors) lt ∙ ap Chain.slots kept.chain));
    inside = let z = kept.offer in let y = begins_inside k r s is op slot images b as_many f h in omega arith;
  }
    where
      kept : IsKeptAt k s (anchor_of f.key k.anchors) f
      kept = op.kept f h

      first : f.first ≡ first_of f.chain
      first = let q = contains_map found_of b.entries f (subst (λ (ws : List Found). Contains ws f) b.told h) in subst (λ (z : Found). z.first ≡ first_of z.chain) q.2 (ap first_of (sym (b.won q.0 q.1).complete.chain.begins))

  old_opened : (a : ℕ) → a < k.anchors → 0 < length (chain_of s a).slots → IsOldEntry o k s a
  old_opened a lt some_slot = ⊎_elim
      (λ (q : (f : Found) × Contains r.winners f × (anchor_of f.key k.anchors ≡ a)). subst (IsOldEntry o k s) q.2 (kept_old q.0 q.1 (let z = q.2 in omega arith)))
      (λ (q : (f : Found) → Contains r.winners f → anchor_of f.key k.anchors ≡ a → ⊥). absurd (let z = ap (λ (c : Chain). length c.slots) (op.empty a lt q).chain in omega arith))
      (numbered (λ (f : Found). anchor_of f.key k.anchors) a r.winners)

  not_free : (w : Writer X) → Writing w ≡ Free → ⊥
  not_free w e = cc

  pub opened_offers : OffersStand o k s
  opened_offers = record {
    old = λ a lt some_slot low. old_opened a lt some_slot;
    new = λ a lt some_slot high. absurd (old_version k r s is op a lt high);
    chosen = λ i t w p h c. absurd (not_free w (tab_free k r s is op i h.view h.at t (Writing w) h.there));
  }
