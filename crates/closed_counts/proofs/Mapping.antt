-- Free slots are counted by their bits in the map.
use Rattle.std.proofs.Common.{Bool, List, add-one, ap, arith, cond, eq-eqb, false, ne_eqb, sym, true, ◌%◌, ◌*◌, ◌+◌, ◌/◌, ◌==◌, ◌≡◌, ◌≢◌, ◌∙◌, ℕ}
use Rattle.std.proofs.lemmas.Nat.Bits.{bit_at-lt}
use mathlib.Core.Option.{some}
use lib.ListN.{get_elem?}
use Rattle.std.specs.Int.{bit_at}
use Rattle.link_word.specs.Map.{taken_in}
use Rattle.core_model.specs.declared.view.Place.TheVariants.{Map}
use Rattle.core_model.specs.Layout.{Setting, map_index, word_in}
use Rattle.core_model.specs.Spots.{free_below}
use Rattle.core_model.specs.State.{State}
use Rattle.closed_counts.specs.Counts.{AreWordsOf}
use Rattle.closed_counts.proofs.Reading.{read}

module _ {X : Type 0} {anchors slots : ℕ} {words : List ℕ} {k : Setting X} {s : State X} (w : AreWordsOf anchors slots words k s) where
  abbrev bit : ℕ → ℕ
  bit slot = taken_in (word_in k s.words (Map (slot / 64))) slot

  -- the bit of a slot in the word that was read
  bit_is : (slot at n b : ℕ) → at ≡ 5 * anchors + 2 * slots + slot / 64 → get_elem? words at ≡ some n → b ≡ slot % 64
      → bit slot ≡ bit_at n b
  bit_is slot at n b is found same =
      ap (λ (m : ℕ). bit_at m (slot % 64))
      (read w at (map_index k (slot / 64)) n
      (is ∙ ap (λ (m : ℕ). 5 * m + 2 * slots + slot / 64) (sym w.anchors_are)
      ∙ ap (λ (m : ℕ). 5 * k.anchors + 2 * m + slot / 64) (sym w.slots_are)) found)
      ∙ ap (bit_at n) (sym same)

  next : (slot : ℕ) (b : Bool) → (bit slot == 0) ≡ b → free_below k s (slot + 1) ≡ cond b 1 0 + free_below k s slot
  next slot b e = ap (free_below k s) (add-one slot) ∙ ap (λ (z : Bool). cond z 1 0 + free_below k s slot) e

  -- a slot that is free is one more
  pub free_more : (slot at n b free : ℕ) → at ≡ 5 * anchors + 2 * slots + slot / 64 → get_elem? words at ≡ some n → b ≡ slot % 64
      → bit_at n b ≢ 1 → free ≡ free_below k s slot → free + 1 ≡ free_below k s (slot + 1)
  free_more slot at n b free is found same clear counted =
      let none : bit_at n b ≡ 0 = let low = bit_at-lt n b in omega arith in
      let more = next slot true (eq-eqb (bit slot) 0 (bit_is slot at n b is found same ∙ none)) in omega arith

  -- and one that is taken is none
  pub taken_more : (slot at n b free : ℕ) → at ≡ 5 * anchors + 2 * slots + slot / 64 → get_elem? words at ≡ some n → b ≡ slot % 64
      → bit_at n b ≡ 1 → free ≡ free_below k s slot → free ≡ free_below k s (slot + 1)
  taken_more slot at n b free is found same is_set counted =
      let more = next slot false (ne_eqb (bit slot) 0 (λ z. let one = bit_is slot at n b is found same ∙ is_set in omega arith)) in
      omega arith
