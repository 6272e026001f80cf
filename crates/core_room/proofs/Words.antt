-- What steps make of the map of taken slots.
use Rattle.std.proofs.Common.{List, None, Option, Some, ap, arith, get_or, get_or-set_other, get_or-set_same, length, refl, set, subst, sym, ◌/◌, ◌<◌, ◌∙◌, ◌≡◌, ◌≢◌, ◌≤◌, ℕ}
use mathlib.Core.Option.{some}
use mathlib.Core.Logic.{dite}
use native.Mathlib.Decide.{ℕ_discrete}
use lib.ListN.{get_elem?}
use Rattle.link_word.specs.Map.{map_words, taken_in, with_slot, without_slot}
use Rattle.link_word.proofs.Mapped.{clear_here, clear_other, set_here, set_other, word_within}
use Rattle.core_model.specs.declared.moves.Move.{Move}
use Rattle.core_model.specs.declared.moves.Move.TheVariants.{Disown, LookMap, Own}
use Rattle.core_model.specs.declared.view.Place.{Place}
use Rattle.core_model.specs.declared.view.Place.TheVariants.{Map}
use Rattle.core_model.specs.declared.view.View.{View}
use Rattle.core_model.specs.Layout.{Setting, index, map_index, word_count}
use Rattle.core_model.specs.State.{State}
use Rattle.core_model.specs.Sound.{Sound}
use Rattle.core_model.specs.Steps.{after, number_found, words_after}
use Rattle.core_model.specs.Tabs.{IsPass}
use Rattle.core_model.specs.Table.{Allowed, left_by, place}
use Rattle.core_model.proofs.Places.{apart}
use Rattle.core_model.proofs.Lists.{set_back}
use Rattle.core_model.proofs.StepPlaces.{IsInside, place_inside}
use Rattle.core_room.specs.Room.{taken_at}

-- a place that is none of the map's
abbrev pub IsFar : Option Place → Type 0
IsFar (Some (Map word)) = ⊥
IsFar p = Unit {0}

module _ {X : Type 0} (k : Setting X) (s : State X) where
  -- a bit of the map in words of the table
  abbrev bit : List ℕ → ℕ → ℕ
  bit words j = taken_in (get_or words (map_index k (j / 64)) 0) j

  -- a word is set that is none of the map's
  off : (p : Option Place) → IsInside k p → IsFar p → (left j : ℕ) → j < k.slots → bit (words_after k s.words p left) j ≡ bit s.words j
  off None here far left j lt = refl
  off (Some q) here far left j lt = ap (λ (n : ℕ). taken_in n j) (get_or-set_other s.words (index k q) (map_index k (j / 64)) left 0
      (λ e. subst IsFar (ap Some (sym (apart k (Map (j / 64)) q (word_within k.slots j lt) here e))) far))

  module _ (wide : length s.words ≡ word_count k) (slot : ℕ) (lt : slot / 64 < map_words k.slots)
      (x : ℕ) where
    -- one of the map's is
    here : (j : ℕ) → j / 64 ≡ slot / 64 → bit (set s.words (map_index k (slot / 64)) x) j ≡ taken_in x j
    here j same = ap (λ (w : ℕ). taken_in (get_or (set s.words (map_index k (slot / 64)) x) (map_index k w) 0) j) same
        ∙ ap (λ (n : ℕ). taken_in n j) (get_or-set_same s.words (map_index k (slot / 64)) x 0 (omega arith))

    there : (j : ℕ) → j / 64 ≢ slot / 64 → bit (set s.words (map_index k (slot / 64)) x) j ≡ bit s.words j
    there j ne = ap (λ (n : ℕ). taken_in n j) (get_or-set_other s.words (map_index k (slot / 64)) (map_index k (j / 64)) x 0
        (λ e. ne (omega arith)))

    -- in which the bits of other slots stay
    others : ((j : ℕ) → j / 64 ≡ slot / 64 → j ≢ slot → taken_in x j ≡ taken_in (get_or s.words (map_index k (slot / 64)) 0) j) → (j : ℕ)
        → j ≢ slot → bit (set s.words (map_index k (slot / 64)) x) j ≡ bit s.words j
    others stay j ne = dite (ℕ_discrete (j / 64) (slot / 64))
        (λ same. here j same ∙ stay j same ne ∙ ap (λ (w : ℕ). taken_in (get_or s.words (map_index k w) 0) j) (sym same))
        (λ far. there j far)

-- the bit of a slot in its word, where another slot of the word was looked at
pub same_word : {X : Type 0} → (k : Setting X) (s : State X) (slot j : ℕ) → j / 64 ≡ slot / 64
    → taken_at k s j ≡ taken_in (get_or s.words (map_index k (slot / 64)) 0) j
same_word k s slot j same = ap (λ (w : ℕ). taken_in (get_or s.words (map_index k w) 0) j) same

module _ {X : Type 0} (k : Setting X) (s : State X) (i : ℕ) (v : View X) (so : Sound k s) (at : get_elem? s.views i ≡ some v)
    (pass : IsPass v) where
  -- A step on a word that is none of the map's leaves all bits, and one that gives a slot back sets none.
  abbrev pub LessTaken : Move → Type 0
  LessTaken m = (j : ℕ) → j < k.slots → taken_at k (after k s i v m) j ≤ taken_at k s j

  pub far_less : (m : Move) → Allowed k s v m → IsFar (place v m) → LessTaken m
  far_less m may far j lt =
      let e = off k s (place v m) (place_inside k s i v so at pass m may) far (left_by v m (number_found k s v m)) j lt in omega arith

  pub back_less : (t slot : ℕ) → Allowed k s v (Disown t slot) → LessTaken (Disown t slot)
  back_less t slot may j lt = let n : ℕ = get_or s.words (map_index k (slot / 64)) 0 in
      let low = place_inside k s i v so at pass (Disown t slot) may in dite (ℕ_discrete j slot)
      (λ e. let h = here k s so.anchors.shaped.words slot low (without_slot n slot) j (ap (λ (z : ℕ). z / 64) e) in
      let c = ap (taken_in (without_slot n slot)) e in let z = clear_here n slot in omega arith)
      (λ ne. let h = others k s so.anchors.shaped.words slot low (without_slot n slot)
      (λ q same other. clear_other n slot q same other) j ne in omega arith)

  -- A look at the map leaves it.
  pub look_same : (t w j : ℕ) → taken_at k (after k s i v (LookMap t w)) j ≡ taken_at k s j
  look_same t w j = ap (λ (ws : List ℕ). bit k s ws j) (set_back s.words (map_index k w) 0)

  -- A try takes its slot, and leaves the other ones.
  pub try_here : (t slot : ℕ) → slot < k.slots → taken_at k (after k s i v (Own t slot)) slot ≡ 1
  try_here t slot lt = let n : ℕ = get_or s.words (map_index k (slot / 64)) 0 in
      here k s so.anchors.shaped.words slot (word_within k.slots slot lt) (with_slot n slot) slot refl ∙ set_here n slot

  pub try_else : (t slot : ℕ) → slot < k.slots → (j : ℕ) → j ≢ slot → taken_at k (after k s i v (Own t slot)) j ≡ taken_at k s j
  try_else t slot lt j ne = let n : ℕ = get_or s.words (map_index k (slot / 64)) 0 in
      others k s so.anchors.shaped.words slot (word_within k.slots slot lt) (with_slot n slot)
      (λ q same other. set_other n slot q same other) j ne
