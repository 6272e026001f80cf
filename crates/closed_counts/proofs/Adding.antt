-- What is counted slot by slot and anchor by anchor.
use Rattle.std.proofs.Common.{Bool, List, [], add-one, ap, arith, cond, eq-eqb, false, get_or, length, ne_eqb, refl, suc, sum_by, sym, take, true, zero, ◌+◌, ◌++◌, ◌<◌, ◌≡◌, ◌≢◌, ◌≤◌, ◌∙◌, ◌∷◌, ℕ}
use Rattle.std.specs.List.{filter, range_with_len}
use Rattle.std.proofs.Math.Seq.{take-length}
use Rattle.std.proofs.lemmas.List.{append-nil, length_push}
use Rattle.std.proofs.lemmas.List.Elements.{filter-append}
use Rattle.std.proofs.lemmas.List.Sums.{sum_by-cons, sum_by-take-le, sum_by_more, sum_by_push}
use mathlib.Core.Logic.{dite}
use native.Mathlib.Decide.{ℕ_discrete}
use Rattle.lock_word.specs.Words.{epoch_of, stage_of}
use Rattle.core_model.specs.declared.chain.Chain.{Chain}
use Rattle.core_model.specs.Chains.{no_chain}
use Rattle.core_model.specs.Layout.{Setting}
use Rattle.core_model.specs.Spots.{slots_chained}
use Rattle.core_model.specs.State.{State, chain_of, word}
use Rattle.core_model.proofs.SlotsCounted.{slots_counted}
use Rattle.closed_counts.specs.Counts.{AreWordsOf, is_closed_at, slots_kept, slots_of}

-- a chain has no more slots than all chains together
chain_among : (cs : List Chain) (a : ℕ) → slots_chained (get_or cs a no_chain) ≤ sum_by slots_chained cs
chain_among [] a = omega arith
chain_among (c ∷ cs) zero = let h = sum_by-cons slots_chained c cs in omega arith
chain_among (c ∷ cs) (suc a) = let h = sum_by-cons slots_chained c cs in let r = chain_among cs a in omega arith

module _ {X : Type 0} {anchors slots : ℕ} {words : List ℕ} {k : Setting X} {s : State X} (w : AreWordsOf anchors slots words k s) where
  -- no chain is longer than there are slots
  pub chain_short : (a : ℕ) → slots_of s a ≤ slots
  chain_short a = let c = slots_counted k s w.sound.slots in let h = chain_among s.chains a in let e = w.slots_are in omega arith

range_more : (a n : ℕ) → range_with_len a (suc n) ≡ range_with_len a n ++ (a + n) ∷ []
range_more a zero = let e : a ≡ a + 0 = omega arith in ap (λ (m : ℕ). m ∷ []) e
range_more a (suc n) = let e : a + 1 + n ≡ a + suc n = omega arith in ap (λ (xs : List ℕ). a ∷ xs) (range_more (a + 1) n
    ∙ ap (λ (m : ℕ). range_with_len (a + 1) n ++ m ∷ []) e)

module _ {X : Type 0} (s : State X) where
  -- the closed anchors below a number
  abbrev pub closed_below : ℕ → List ℕ
  closed_below n = filter (is_closed_at s) (range_with_len 0 n)

  next : (n : ℕ) → closed_below (n + 1) ≡ closed_below n ++ cond (is_closed_at s n) (n ∷ []) []
  next n = let e : 0 + n ≡ n = omega arith in
      ap closed_below (add-one n) ∙ ap (filter (is_closed_at s)) (range_more 0 n ∙ ap (λ (m : ℕ). range_with_len 0 n ++ m ∷ []) e)
      ∙ filter-append (is_closed_at s) (range_with_len 0 n) (n ∷ [])

  pub closed_more : (n : ℕ) → is_closed_at s n ≡ true → closed_below (n + 1) ≡ closed_below n ++ n ∷ []
  closed_more n is = next n ∙ ap (λ (b : Bool). closed_below n ++ cond b (n ∷ []) []) is

  pub closed_same : (n : ℕ) → is_closed_at s n ≡ false → closed_below (n + 1) ≡ closed_below n
  closed_same n is = next n ∙ ap (λ (b : Bool). closed_below n ++ cond b (n ∷ []) []) is ∙ append-nil (closed_below n)

  -- one more, and its slots
  pub kept_more : (n kept : ℕ) → is_closed_at s n ≡ true → kept ≡ length (closed_below n) → kept + 1 ≡ length (closed_below (n + 1))
  kept_more n kept is e = let more = ap length (closed_more n is) ∙ length_push (closed_below n) n in omega arith

  pub held_more : (n held : ℕ) → is_closed_at s n ≡ true → held ≡ sum_by (slots_of s) (closed_below n)
      → held + slots_of s n ≡ sum_by (slots_of s) (closed_below (n + 1))
  held_more n held is e = let more = ap (sum_by (slots_of s)) (closed_more n is) ∙ sum_by_push (slots_of s) (closed_below n) n in
      omega arith

  -- what n + 1 anchors have of the closed ones, and what their chains have
  below_next : (n : ℕ) → sum_by (slots_of s) (closed_below (suc n)) ≡ sum_by (slots_of s) (closed_below (n + 1))
  below_next n = ap (λ (m : ℕ). sum_by (slots_of s) (closed_below m)) (sym (add-one n))

  chains_next : (n : ℕ) → n < length s.chains
      → sum_by slots_chained (take (suc n) s.chains) ≡ sum_by slots_chained (take n s.chains) + slots_chained (chain_of s n)
  chains_next n lt = ap (λ (m : ℕ). sum_by slots_chained (take m s.chains)) (sym (add-one n))
      ∙ sum_by_more slots_chained s.chains n no_chain lt

  few_next : (n : ℕ) (b : Bool) → is_closed_at s n ≡ b
      → sum_by (slots_of s) (closed_below (n + 1)) ≤ sum_by (slots_of s) (closed_below n) + slots_of s n
  few_next n true is = let more = held_more n (sum_by (slots_of s) (closed_below n)) is refl in omega arith
  few_next n false is = let more = ap (sum_by (slots_of s)) (closed_same n is) in omega arith

  -- the chains of closed anchors are among all chains
  among : (n : ℕ) → n ≤ length s.chains → sum_by (slots_of s) (closed_below n) ≤ sum_by slots_chained (take n s.chains)
  among zero le = omega arith
  among (suc n) le = let old = among n (omega arith) in let a = below_next n in let b = chains_next n (omega arith) in
      let more = few_next n (is_closed_at s n) refl in omega arith

  abbrev stage : ℕ → ℕ
  stage a = stage_of (epoch_of (word s a))

  -- the chain of a closed anchor has no tail, and another anchor has no chain
  abbrev pub IsKeptAlone : ℕ → Type 0
  IsKeptAlone a = (stage a ≡ 3 → (chain_of s a).tail ≡ []) × (stage a ≢ 3 → chain_of s a ≡ no_chain)

  all_next : (n : ℕ) → IsKeptAlone n
      → sum_by (slots_of s) (closed_below (n + 1)) ≡ sum_by (slots_of s) (closed_below n) + slots_chained (chain_of s n)
  all_next n alone = dite (ℕ_discrete (stage n) 3)
      (λ e. let more = held_more n (sum_by (slots_of s) (closed_below n)) (eq-eqb (stage n) 3 e) refl in
      let none : length (chain_of s n).tail ≡ 0 = ap (λ (xs : List ℕ). length xs) (alone.0 e) in omega arith)
      (λ ne. let more = ap (sum_by (slots_of s)) (closed_same n (ne_eqb (stage n) 3 ne)) in
      let none : slots_chained (chain_of s n) ≡ 0 = ap slots_chained (alone.1 ne) in omega arith)

  all_below : (n : ℕ) → n ≤ length s.chains → ((a : ℕ) → a < n → IsKeptAlone a)
      → sum_by (slots_of s) (closed_below n) ≡ sum_by slots_chained (take n s.chains)
  all_below zero le alone = refl
  all_below (suc n) le alone = let old = all_below n (omega arith) (λ a lt. alone a (omega arith)) in let a = below_next n in
      let b = chains_next n (omega arith) in let more = all_next n (alone n (omega arith)) in omega arith

  -- where that is so of all anchors, the chains of closed ones are all chains
  pub all_kept : (k : Setting X) → length s.chains ≡ k.anchors → ((a : ℕ) → a < k.anchors → IsKeptAlone a)
      → slots_kept k s ≡ sum_by slots_chained s.chains
  all_kept k many alone = all_below k.anchors (omega arith) alone
      ∙ ap (sum_by slots_chained) (ap (λ (n : ℕ). take n s.chains) (sym many) ∙ take-length s.chains)

module _ {X : Type 0} {anchors slots : ℕ} {words : List ℕ} {k : Setting X} {s : State X} (w : AreWordsOf anchors slots words k s) where
  -- they have no more slots than there are
  pub held_few : (n : ℕ) → n ≤ anchors → sum_by (slots_of s) (closed_below s n) ≤ slots
  held_few n le =
      let a = among s n (let e = w.sound.anchors.shaped.chains in let f = w.anchors_are in omega arith) in
      let b = sum_by-take-le slots_chained s.chains n in
      let c = slots_counted k s w.sound.slots in let e = w.slots_are in omega arith
