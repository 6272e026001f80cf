-- In a store that was just opened with what a rebuild kept each slot is at one place.
use Rattle.std.proofs.Common.{◌≡◌, ◌≢◌, ◌⊎◌, inl, inr, ⊎_elim, ℕ, ◌+◌, ◌-◌, ◌<◌, ◌≤◌, List, [], get_or, sym, refl, ap, ◌∙◌, subst, arith, sum_by, Contains}
use mathlib.Core.Option.{some}
use mathlib.Core.Logic.{dite}
use native.Mathlib.Decide.{ℕ_discrete}
use lib.ListN.{get_elem?}
use Rattle.lock_word.specs.Words.{epoch_of, stage_of}
use Rattle.lock_word.proofs.Taking.{epoch_of-word_at, stage_of-epoch_at}
use Rattle.link_word.specs.declared.link.Link.TheVariants.{Last}
use Rattle.store_key.specs.Anchor.{anchor_of}
use Rattle.rebuild_model.specs.declared.found.Found.{Found}
use Rattle.rebuild_model.specs.declared.rebuilt.Rebuilt.{Rebuilt}
use Rattle.core_model.specs.declared.view.View.{View}
use Rattle.core_model.specs.declared.view.Place.TheVariants.{Link as LinkWord}
use Rattle.core_model.specs.declared.chain.Chain.{Chain}
use Rattle.core_model.specs.Layout.{Setting, index}
use Rattle.core_model.specs.State.{State, word, chain_of}
use Rattle.core_model.specs.Chains.{no_chain, start_number, Fits}
use Rattle.core_model.specs.Tabs.{count}
use Rattle.core_model.specs.Anchors.{IsSetting}
use Rattle.core_model.specs.Opening.{IsOpened, IsKeptAt}
use Rattle.core_model.specs.Slots.{SlotWords, slot_words, used, held_in, resting_in, published_in, standing_in, ChainStands, TabHolds, SlotsSound}
use Rattle.core_model.proofs.Lists.{at_or, at_length, le_sum_at, sum_some, sum_others}
use Rattle.core_model.proofs.Tabs.{contains_times, times_contains}
use Rattle.core_model.proofs.Telling.{told_in, told_out, stage_told}
use Rattle.core_model.proofs.SlotFrame.{published_few, used_few, used_some}
use Rattle.core_model.proofs.SlotsLoosened.{standing_few}
use Rattle.core_model.proofs.SlotsOpened.{spells_alike, times_distinct}
use Rattle.core_model.proofs.CellsOpened.{numbered}
use Rattle.core_model.proofs.Opened.{at_new, no_sum, free_tab}
use Rattle.core_openings.specs.KeptSo.{IsKeptSo}

module _ {X : Type 0} (k : Setting X) (r : Rebuilt) (s : State X) (is : IsSetting k) (o : IsOpened k r s) (b : IsKeptSo k.anchors k.slots r) where
  abbrev w : SlotWords
  w = slot_words k s.words

  abbrev at_anchor : Found → ℕ
  at_anchor f = anchor_of f.key k.anchors

  -- what an entry that was kept is to its anchor
  record Kept (a : ℕ) : Type 0 where
    entry : Found
    kept : Contains r.winners entry
    at_a : at_anchor entry ≡ a

  abbrev HasNone : ℕ → Type 0
  HasNone a = (f : Found) → Contains r.winners f → at_anchor f ≡ a → ⊥

  kept_or_not : (a : ℕ) → Kept a ⊎ HasNone a
  kept_or_not a = ⊎_elim (λ (q : (f : Found) × Contains r.winners f × (at_anchor f ≡ a)). inl record { entry = q.0; kept = q.1; at_a = q.2 })
      (λ (q : HasNone a). inr q) (numbered at_anchor a r.winners)

  kept_at : (a : ℕ) (q : Kept a) → IsKeptAt k s a q.entry
  kept_at a q = subst (λ (z : ℕ). IsKeptAt k s z q.entry) q.at_a (o.kept q.entry q.kept)

  chain_is : (a : ℕ) (q : Kept a) → chain_of s a ≡ record { slots = q.entry.chain; end = Last; tail = [] }
  chain_is a q = (kept_at a q).chain

  below : (a : ℕ) (q : Kept a) (j : ℕ) → Contains q.entry.chain j → j < k.slots
  below a q j h = b.within q.entry q.kept j h

  owned : (a : ℕ) (q : Kept a) (j : ℕ) → Contains q.entry.chain j → get_or r.owner j 0 ≡ a + 1
  owned a q j h = b.owned q.entry j q.kept h ∙ ap (λ (z : ℕ). z + 1) q.at_a

  marked : (a : ℕ) (q : Kept a) (j : ℕ) → Contains q.entry.chain j → w.taken j ≡ 1
  marked a q j h = let lt = below a q j h in told_in k.slots j _ lt ∙ o.taken j lt ∙ used_some (get_or r.owner j 0) (let e = owned a q j h in omega arith)

  empty_chain : (a : ℕ) → a < k.anchors → HasNone a → (word s a ≡ 0) × (chain_of s a ≡ no_chain)
  empty_chain a lt none = let h = o.empty a lt none in (h.word_is, h.chain)

  -- each anchor's chain
  stands : (a : ℕ) → a < k.anchors → ChainStands (w.stage a) (w.start a) w.link (chain_of s a)
  stands a lt = ⊎_elim kept_stands (λ (none : HasNone a). empty_stands (empty_chain a lt none)) (kept_or_not a)
    where
      empty_stands : (word s a ≡ 0) × (chain_of s a ≡ no_chain) → ChainStands (w.stage a) (w.start a) w.link (chain_of s a)
      empty_stands h = let g : w.stage a ≡ 0 = stage_told k s.words a lt ∙ ap (λ n. stage_of (epoch_of n)) h.0 in subst (ChainStands (w.stage a) (w.start a) w.link) (sym h.1) record {
        spelled = tt;
        fits = tt;
        starts = λ low high. absurd (omega arith);
        grows = λ e. absurd (omega arith);
        closed = λ e. absurd (omega arith);
        halted = λ e. absurd (omega arith);
        tails = rw g refl;
        gone = λ e. refl;
      }

      kept_stands : Kept a → ChainStands (w.stage a) (w.start a) w.link (chain_of s a)
      kept_stands q = let kept = kept_at a q in let begins = b.begins q.entry q.kept in
          let g : w.stage a ≡ 3 = stage_told k s.words a lt ∙ ap (λ n. stage_of (epoch_of n)) kept.word_is ∙ ap stage_of (epoch_of-word_at q.entry.version 3) ∙ stage_of-epoch_at q.entry.version 3 (omega arith) in
          subst (ChainStands (w.stage a) (w.start a) w.link) (sym kept.chain) record {
            spelled = spells_alike (λ j. get_or s.words (index k (LinkWord j)) 0) w.link q.entry.chain Last (λ j h. told_in k.slots j _ (below a q j h)) kept.links;
            fits = subst (λ (z : List ℕ). Fits z Last) (sym begins.1) tt;
            starts = λ low high. told_in k.anchors a _ lt ∙ kept.start ∙ sym (ap start_number begins.1);
            grows = λ e. absurd (omega arith);
            closed = λ e. refl;
            halted = λ e. absurd (omega arith);
            tails = rw g refl;
            gone = λ e. absurd (⊎_elim (λ (z : w.stage a ≡ 0). omega arith) (λ (z : 5 ≤ w.stage a). omega arith) e);
          }

  -- a slot that stands in a chain: which one, how often, and that it is no tail
  record Stood (j : ℕ) (a : ℕ) : Type 0 where
    kept : Kept a
    once : standing_in j (chain_of s a) ≡ 1
    published : published_in j (chain_of s a) ≡ 1
    owner : get_or r.owner j 0 ≡ a + 1
    taken : w.taken j ≡ 1

  stood : (j a : ℕ) → a < k.anchors → 0 < standing_in j (chain_of s a) → Stood j a
  stood j a lt h = ⊎_elim by_entry (λ (none : HasNone a). absurd (let z = ap (standing_in j) (empty_chain a lt none).1 in omega arith)) (kept_or_not a)
    where
      by_entry : Kept a → Stood j a
      by_entry q = let e = ap (standing_in j) (chain_is a q) in let p = ap (published_in j) (chain_is a q) in let few = times_distinct j q.entry.chain (b.once q.entry q.kept) in record {
        kept = q;
        once = omega arith;
        published = omega arith;
        owner = owned a q j (times_contains j q.entry.chain (omega arith));
        taken = marked a q j (times_contains j q.entry.chain (omega arith));
      }

  some_stood : (j : ℕ) → 0 < sum_by (standing_in j) s.chains → (a : ℕ) × (a < k.anchors) × Stood j a × (sum_by (standing_in j) s.chains ≡ 1)
  some_stood j h = let x = sum_some (standing_in j) s.chains h in let a : ℕ = x.i in let lt : a < k.anchors = (let z = at_length s.chains x.i x.item x.at in let m = o.chains in omega arith) in
      let here : get_or s.chains a no_chain ≡ x.item = at_or s.chains x.i x.item no_chain x.at in let st = stood j a lt (let z = ap (standing_in j) here in let y = x.some_ in omega arith) in
      (a, lt, st, only a x.item x.at here st)
    where
      only : (a : ℕ) (c : Chain) → get_elem? s.chains a ≡ some c → get_or s.chains a no_chain ≡ c → Stood j a → sum_by (standing_in j) s.chains ≡ 1
      only a c at here st = let one : standing_in j c ≡ 1 = sym (ap (standing_in j) here) ∙ st.once in let l = le_sum_at (standing_in j) s.chains a c at in dite (ℕ_discrete (sum_by (standing_in j) s.chains) 1) (λ e. e)
          (λ ne. absurd (others (sum_others (standing_in j) s.chains a c at (omega arith))))
        where
          others : (d : ℕ) × (y : Chain) × (d ≢ a) × (get_elem? s.chains d ≡ some y) × (0 < standing_in j y) → ⊥
          others q = let lt : q.0 < k.anchors = (let z = at_length s.chains q.0 q.1 q.3 in let m = o.chains in omega arith) in
              let other = stood j q.0 lt (let z = ap (standing_in j) (at_or s.chains q.0 q.1 no_chain q.3) in let y = q.4 in omega arith) in let p = other.owner in let p' = st.owner in q.2 (omega arith)

  -- one that stands in none
  none_stood : (j : ℕ) → sum_by (standing_in j) s.chains ≡ 0 → (w.taken j ≡ 0) × (w.link j ≡ 0)
  none_stood j h = dite (ℕ_discrete (k.slots - j) 0)
      (λ e. (told_out k.slots j _ (omega arith), told_out k.slots j _ (omega arith)))
      (λ ne. let lt : j < k.slots = omega arith in let free = b.free j (λ e kept c. not_there e kept c) in (told_in k.slots j _ lt ∙ o.taken j lt ∙ ap used free, told_in k.slots j _ lt ∙ o.free j lt free))
    where
      not_there : (e : Found) → Contains r.winners e → Contains e.chain j → ⊥
      not_there e kept c = let q : Kept (at_anchor e) = record { entry = e; kept = kept; at_a = refl } in let z = ap (standing_in j) (chain_is (at_anchor e) q) in let y = contains_times j e.chain c in
          let l = standing_few j s.chains (at_anchor e) in omega arith

  no_rests : (j : ℕ) → (sum_by (count (held_in j)) s.views ≡ 0) × (sum_by (count (resting_in j)) s.views ≡ 0)
  no_rests j = (no_sum k r s is o (count (held_in j)) (λ p. refl), no_sum k r s is o (count (resting_in j)) (λ p. refl))

  pub opens_slots : SlotsSound k s
  opens_slots = record {
    places = record {
      taken = λ j. let n = (no_rests j).0 in dite (ℕ_discrete (sum_by (standing_in j) s.chains) 0)
          (λ e. let z = ap used (none_stood j e).0 in omega arith)
          (λ ne. let q = some_stood j (omega arith) in let p = q.2.taken in let u = used_some (w.taken j) (omega arith) in let one = q.3 in omega arith);
      links = λ j. let n = (no_rests j).1 in dite (ℕ_discrete (sum_by (standing_in j) s.chains) 0)
          (λ e. let z = ap used (none_stood j e).1 in omega arith)
          (λ ne. let q = some_stood j (omega arith) in let p = q.2.published in let u = used_few (w.link j) in let l = published_few j s.chains q.0 in omega arith);
    };
    stand = stands;
    tabs = λ i v e t tab h. let q = at_new k r s is o i v e in let f = free_tab k r s is o t tab (subst (λ (u : View X). get_elem? u.tabs t ≡ some tab) q.0 h) in subst (TabHolds w s.chains v) (sym f) tt;
  }
