-- Where each tab of a sound state is free, nothing is left over.
use Rattle.std.proofs.Common.{cond, ◌==◌, ◌≡◌, ◌≢◌, ◌⊎◌, inl, inr, ⊎_elim, ℕ, ◌+◌, ◌<◌, [], ◌++◌, sym, refl, ap, ◌∙◌, subst, arith, sum_by, Contains}
use Rattle.std.proofs.lemmas.List.Elements.{Contains-append_left, Contains-append_cases}
use mathlib.Core.Logic.{dite}
use native.Mathlib.Decide.{ℕ_discrete}
use Rattle.lock_word.specs.Words.{epoch_of, stage_of}
use Rattle.core_model.specs.declared.spot.Spot.{Spot}
use Rattle.core_model.specs.declared.spot.Spot.TheVariants.{Free as FreeSpot, Reserved, Chained, Resting, Loose}
use Rattle.core_model.specs.declared.tab.Writer.{Writer}
use Rattle.core_model.specs.declared.tab.Freer.{Freer}
use Rattle.core_model.specs.declared.tab.Tab.{Tab}
use Rattle.core_model.specs.declared.tab.Tab.TheVariants.{Free, Writing, Freeing}
use Rattle.core_model.specs.Chains.{no_chain, slots_of_link}
use Rattle.core_model.specs.Holders.{AllFree, IsFinished, IsTab}
use Rattle.core_model.specs.Layout.{Setting}
use Rattle.core_model.specs.Slots.{ChainStands, slot_words}
use Rattle.core_model.specs.Sound.{Sound}
use Rattle.core_model.specs.Spots.{HasOneSpot, IsIn, free_below, slots_held, slots_used}
use Rattle.core_model.specs.State.{State, chain_of, word}
use Rattle.core_model.specs.Tabs.{count}
use Rattle.core_model.proofs.Lists.{sum_some}
use Rattle.core_model.proofs.Telling.{stage_told}
use Rattle.closed_counts.proofs.Adding.{all_kept}
use Rattle.settled_stores.specs.Settled.{IsGivenBack, IsKept, IsSettled}

module _ {X : Type 0} (k : Setting X) (s : State X) (so : Sound k s) (free : AllFree s)
    (finished : (a : ℕ) → a < k.anchors → IsFinished (word s a)) (spot : (slot : ℕ) → slot < k.slots → HasOneSpot k s slot) (all : free_below k s k.slots + slots_used s ≡ k.slots) where
  abbrev stage : ℕ → ℕ
  stage a = stage_of (epoch_of (word s a))

  stands : (a : ℕ) → a < k.anchors → ChainStands (stage a) ((slot_words k s.words).start a) (slot_words k s.words).link (chain_of s a)
  stands a lt = subst (λ (n : ℕ). ChainStands n ((slot_words k s.words).start a) (slot_words k s.words).link (chain_of s a)) (stage_told k s.words a lt) (so.slots.stand a lt)

  unchained : (a : ℕ) → a < k.anchors → stage a ≢ 3 → chain_of s a ≡ no_chain
  unchained a lt ne = (stands a lt).gone (⊎_elim (λ e. inl e) (λ q. ⊎_elim (λ e. absurd (ne e)) (λ e. inr (omega arith)) q) (finished a lt).stage)

  no_slot : (a slot : ℕ) → chain_of s a ≡ no_chain → Contains ((chain_of s a).slots ++ (chain_of s a).tail) slot → ⊥
  no_slot a slot e c = none (subst (λ z. Contains (z.slots ++ z.tail) slot) e c)
    where
      none : Contains [] slot → ⊥
      none h = let z = h.1 in omega arith

  closed_at : (a slot : ℕ) → a < k.anchors → Contains ((chain_of s a).slots ++ (chain_of s a).tail) slot → stage a ≡ 3
  closed_at a slot lt c = dite (ℕ_discrete (stage a) 3) (λ e. e) (λ ne. absurd (no_slot a slot (unchained a lt ne) c))

  no_tail : (a : ℕ) → a < k.anchors → stage a ≡ 3 → (chain_of s a).tail ≡ []
  no_tail a lt e = (stands a lt).tails ∙ tail_of (stage a) e
    where
      tail_of : (n : ℕ) → n ≡ 3 → cond (n == 4) (slots_of_link (chain_of s a).end) [] ≡ []
      tail_of n e = subst (λ z. cond (z == 4) (slots_of_link (chain_of s a).end) [] ≡ []) (sym e) refl

  in_chain : (a slot : ℕ) → a < k.anchors → Contains ((chain_of s a).slots ++ (chain_of s a).tail) slot → Contains (chain_of s a).slots slot
  in_chain a slot lt c = ⊎_elim (λ h. h) (λ h. absurd (let z = (subst (λ t. Contains t slot) (no_tail a lt (closed_at a slot lt c)) h).1 in omega arith))
      (Contains-append_cases (chain_of s a).slots (chain_of s a).tail slot c)

  not_writing : (i t : ℕ) (w : Writer X) → IsTab s i t (Writing w) → ⊥
  not_writing i t w h = differ (free i h.view h.at t (Writing w) h.there)
    where
      differ : Writing w ≡ Free → ⊥
      differ e = cc

  not_freeing : (i t : ℕ) (f : Freer X) → IsTab s i t (Freeing f) → ⊥
  not_freeing i t f h = differ (free i h.view h.at t (Freeing f) h.there)
    where
      differ : ◌≡◌ {A = Tab X} (Freeing f) Free → ⊥
      differ e = cc

  one_of : (slot : ℕ) (here : Spot) → IsIn k s slot here → ((other : Spot) → IsIn k s slot other → other ≡ here) → IsGivenBack k s slot ⊎ IsKept k s slot
  one_of slot FreeSpot is only = inl record {
    free = is;
    alone = λ a lt c. differ a (only (Chained a) (lt, Contains-append_left (chain_of s a).slots (chain_of s a).tail slot c));
  }
    where
      differ : (a : ℕ) → Chained a ≡ FreeSpot → ⊥
      differ a e = cc
  one_of slot (Chained a) is only = inr record {
    anchor = a;
    within = is.0;
    closed = closed_at a slot is.0 is.1;
    there = in_chain a slot is.0 is.1;
    only = λ b lt c. same b (only (Chained b) (lt, Contains-append_left (chain_of s b).slots (chain_of s b).tail slot c));
    taken = λ f. differ (only FreeSpot f);
  }
    where
      same : (b : ℕ) → Chained b ≡ Chained a → b ≡ a
      same b e = cc

      differ : FreeSpot ≡ Chained a → ⊥
      differ e = cc
  one_of slot (Reserved i t) is only = absurd (not_writing i t is.0 is.1)
  one_of slot (Resting i t) is only = absurd (not_freeing i t is.0 is.1)
  one_of slot (Loose i t) is only = absurd (not_freeing i t is.0 is.1)

  none_held : sum_by (count slots_held) s.views ≡ 0
  none_held = dite (ℕ_discrete (sum_by (count slots_held) s.views) 0) (λ e. e)
      (λ ne. let x = sum_some (count slots_held) s.views (omega arith) in let y = sum_some slots_held x.item.tabs x.some_ in
      absurd (let e = ap slots_held (free x.i x.item x.at y.i y.item y.at) in let z = y.some_ in omega arith))

  pub settled : IsSettled k s
  settled = record {
    finished = finished;
    unchained = unchained;
    slots = λ slot lt. let h = spot slot lt in one_of slot h.spot h.is_in h.only;
    counted = let n = none_held in let z = all in omega arith;
    kept = all_kept s k so.anchors.shaped.chains (λ a lt. (no_tail a lt, unchained a lt));
  }
