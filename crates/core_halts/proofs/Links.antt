-- A slot that is published has a link.
use Rattle.std.proofs.Common.{◌≡◌, ⊎_elim, ℕ, ◌+◌, ◌-◌, ◌<◌, List, [], ◌∷◌, ◌++◌, length, Bool, true, false, cond, ltb, sym, refl, ap, ◌∙◌, subst, arith, Contains, zero, suc}
use Rattle.std.proofs.lemmas.List.Elements.{Contains-append_right}
use mathlib.Core.Logic.{dite}
use mathlib.Core.Option.{some, some-injective}
use native.Mathlib.Decide.{ℕ_discrete}
use lib.ListN.{get_elem?}
use Rattle.lock_word.specs.Words.{epoch_of, stage_of}
use Rattle.link_word.specs.declared.link.Link.{Link}
use Rattle.link_word.specs.declared.link.Link.TheVariants.{Last, Next, NotWritten}
use Rattle.link_word.specs.Words.{link_number}
use Rattle.core_model.specs.declared.view.Place.TheVariants.{Link as LinkWord}
use Rattle.core_model.specs.Chains.{Fits, Spells, no_chain}
use Rattle.core_model.specs.Layout.{Setting, word_in}
use Rattle.core_model.specs.Slots.{ChainStands, slot_words, standing_in, told, used}
use Rattle.core_model.specs.Sound.{Sound}
use Rattle.core_model.specs.State.{State, chain_of, word}
use Rattle.core_model.proofs.Lists.{at_index, cons_contains, contains_none, le_sum_at}
use Rattle.core_model.proofs.SlotFrame.{tail_unwritten}
use Rattle.core_model.proofs.Tabs.{contains_times}
use Rattle.core_model.proofs.Telling.{stage_told, told_in, told_out}

-- the first of some slots is one of them
pub at_front : (xs ys : List ℕ) (p slot : ℕ) → p < length xs → get_elem? (xs ++ ys) p ≡ some slot → Contains xs slot
at_front [] ys p slot lt e = absurd (omega arith)
at_front (x ∷ xs) ys zero slot lt e = (0, omega arith, some-injective x slot e)
at_front (x ∷ xs) ys (suc p) slot lt e = Contains-append_right (x ∷ []) xs slot (at_front xs ys p slot (omega arith) e)

end_written : (x : ℕ) (xs : List ℕ) (e : Link) → Fits (x ∷ xs) e → 0 < link_number e
end_written x xs NotWritten h = absurd h
end_written x xs Last h = omega arith
end_written x xs (Next j) h = omega arith

fits_rest : (x y : ℕ) (ys : List ℕ) (e : Link) → Fits (x ∷ y ∷ ys) e → Fits (y ∷ ys) e
fits_rest x y ys NotWritten h = absurd h
fits_rest x y ys Last h = tt
fits_rest x y ys (Next j) h = tt

-- words that spell slots are written in each of them
linked : (links : ℕ → ℕ) (xs : List ℕ) (e : Link) (slot : ℕ) → Spells links xs e → Fits xs e → Contains xs slot → 0 < links slot
linked links [] e slot spells fits c = absurd (contains_none slot c)
linked links (x ∷ []) e slot spells fits c = ⊎_elim
    (λ (q : x ≡ slot). subst (λ (z : ℕ). 0 < links z) q
    (let l : links x ≡ link_number e = spells.0 in let w = end_written x [] e fits in omega arith))
    (λ (q : Contains [] slot). absurd (contains_none slot q))
    (cons_contains x slot [] c)
linked links (x ∷ y ∷ ys) e slot spells fits c = ⊎_elim
    (λ (q : x ≡ slot). subst (λ (z : ℕ). 0 < links z) q (let l : links x ≡ y + 2 = spells.0 in omega arith))
    (λ (q : Contains (y ∷ ys) slot). linked links (y ∷ ys) e slot spells.1 (fits_rest x y ys e fits) q)
    (cons_contains x slot (y ∷ ys) c)

no_number : (many slot : ℕ) → told many slot 0 ≡ 0
no_number many slot = by_bool (ltb slot many)
  where
    by_bool : (b : Bool) → ◌≡◌ {A = ℕ} (cond b 0 0) 0
    by_bool true = refl
    by_bool false = refl

module _ {X : Type 0} (k : Setting X) (s : State X) (so : Sound k s) (a : ℕ) (lt : a < k.anchors) where
  -- what holds of the chain there
  pub stands : ChainStands (stage_of (epoch_of (word s a))) ((slot_words k s.words).start a) (slot_words k s.words).link (chain_of s a)
  stands = subst (λ (g : ℕ). ChainStands g ((slot_words k s.words).start a) (slot_words k s.words).link (chain_of s a))
      (stage_told k s.words a lt) (so.slots.stand a lt)

  pub no_link_published : (slot : ℕ) → word_in k s.words (LinkWord slot) ≡ 0 → Contains (chain_of s a).slots slot → ⊥
  no_link_published slot none c =
      let w : 0 < (slot_words k s.words).link slot =
      linked (slot_words k s.words).link (chain_of s a).slots (chain_of s a).end slot stands.spelled stands.fits c in
      let z : (slot_words k s.words).link slot ≡ 0 = ap (told k.slots slot) none ∙ no_number k.slots slot in absurd (omega arith)

  -- a tail is not written
  tail_inside : (slot : ℕ) → Contains (chain_of s a).tail slot → slot < k.slots
  tail_inside slot c = dite (ℕ_discrete (k.slots - slot) 0)
      (λ e. absurd (let o = so.slots.places.taken slot in
      let z : used ((slot_words k s.words).taken slot) ≡ 0 = ap used (told_out k.slots slot _ (omega arith)) in
      let l = le_sum_at (standing_in slot) s.chains a (chain_of s a)
      (at_index s.chains a (chain_of s a) no_chain (let m = so.anchors.shaped.chains in omega arith) refl) in
      let n = contains_times slot (chain_of s a).tail c in omega arith))
      (λ ne. omega arith)

  pub link_unwritten : (slot : ℕ) → Contains (chain_of s a).tail slot → word_in k s.words (LinkWord slot) ≡ 0
  link_unwritten slot c = sym (told_in k.slots slot (word_in k s.words (LinkWord slot)) (tail_inside slot c))
      ∙ tail_unwritten k.anchors (slot_words k s.words) s.chains s.views so.slots slot a (let m = so.anchors.shaped.chains in omega arith)
      (contains_times slot (chain_of s a).tail c)
