-- What a step makes of a word, and of what its pass last left of that word.
use Rattle.std.proofs.Common.{◌≡◌, ◌≢◌, ℕ, ◌<◌, List, ◌++◌, Option, Some, None, length, get_or, set, get_or-set_same, get_or-set_other, eq-eqb, ne_eqb, sym, refl, ap, ◌∙◌, subst, arith}
use mathlib.Core.Logic.{dite}
use mathlib.Core.Option.{some}
use native.Mathlib.Decide.{ℕ_discrete}
use lib.ListN.{get_elem?}
use Rattle.core_model.specs.declared.moves.Move.{Move}
use Rattle.core_model.specs.declared.view.Place.{Place}
use Rattle.core_model.specs.declared.view.View.{View}
use Rattle.core_model.specs.Deeds.{mirrored}
use Rattle.core_model.specs.Layout.{Setting, index, word_in}
use Rattle.core_model.specs.Sound.{Sound}
use Rattle.core_model.specs.State.{State}
use Rattle.core_model.specs.Steps.{after, finding, number_found, traces_of, view_after, words_after}
use Rattle.core_model.specs.Table.{MayStep, left_by, place}
use Rattle.core_model.proofs.Places.{within}
use Rattle.core_model.proofs.StepPlaces.{IsInside, found_at, place_inside}

-- what the pass last left of a word, or else the opening's
abbrev pub mirror_of : {X : Type 0} → Setting X → View X → Place → ℕ
mirror_of k v q = mirrored k (index k q) v.mirror

module _ {X : Type 0} (k : Setting X) (s : State X) (i : ℕ) (v : View X) (so : Sound k s) (at : get_elem? s.views i ≡ some v) (m : Move)
    (may : MayStep k s v m) where
  abbrev left : ℕ
  left = left_by v m (number_found k s v m)

  abbrev t : State X
  t = after k s i v m

  abbrev w : View X
  w = view_after v m (finding k s v m)

  words_are : (o : Option Place) → place v m ≡ o → t.words ≡ words_after k s.words o left
  words_are o is = ap (λ (z : Option Place). words_after k s.words z left) is

  mirror_is : (o : Option Place) → place v m ≡ o → w.mirror ≡ traces_of o left ++ v.mirror
  mirror_is o is = ap (λ (z : Option Place). traces_of z left ++ v.mirror) is

  inside : (p : Place) → place v m ≡ Some p → index k p < length s.words
  inside p is = let h = within k p (subst (IsInside k) is (place_inside k s i v so at may.pass m may.allowed)) in
      let many = so.anchors.shaped.words in omega arith

  found_is : (p : Place) → place v m ≡ Some p → number_found k s v m ≡ word_in k s.words p
  found_is p is = found_at k s v m p is

  -- The word.

  pub word_here : (p q : Place) → place v m ≡ Some p → index k p ≡ index k q → word_in k t.words q ≡ left
  word_here p q is e = ap (λ (ws : List ℕ). get_or ws (index k q) 0) (words_are (Some p) is)
      ∙ subst (λ (z : ℕ). get_or (set s.words (index k p) left) z 0 ≡ left) e (get_or-set_same s.words (index k p) left 0 (inside p is))

  pub word_far : (p q : Place) → place v m ≡ Some p → index k p ≢ index k q → word_in k t.words q ≡ word_in k s.words q
  word_far p q is ne = ap (λ (ws : List ℕ). get_or ws (index k q) 0) (words_are (Some p) is)
      ∙ get_or-set_other s.words (index k p) (index k q) left 0 (λ e. ne (sym e))

  pub word_none : (q : Place) → place v m ≡ None → word_in k t.words q ≡ word_in k s.words q
  word_none q is = ap (λ (ws : List ℕ). get_or ws (index k q) 0) (words_are None is)

  -- What the pass left of it.

  pub known_here : (p q : Place) → place v m ≡ Some p → index k p ≡ index k q → mirror_of k w q ≡ left
  known_here p q is e = ap (mirrored k (index k q)) (mirror_is (Some p) is) ∙ (let h = eq-eqb (index k p) (index k q) e in rw h refl)

  pub known_far : (p q : Place) → place v m ≡ Some p → index k p ≢ index k q → mirror_of k w q ≡ mirror_of k v q
  known_far p q is ne = ap (mirrored k (index k q)) (mirror_is (Some p) is) ∙ (let h = ne_eqb (index k p) (index k q) ne in rw h refl)

  pub known_none : (q : Place) → place v m ≡ None → mirror_of k w q ≡ mirror_of k v q
  known_none q is = ap (mirrored k (index k q)) (mirror_is None is)

  -- Where that was the word before the step, it is after it.
  pub follows : (q : Place) → word_in k s.words q ≡ mirror_of k v q → word_in k t.words q ≡ mirror_of k w q
  follows q h = by_place (place v m) refl
    where
      by_place : (o : Option Place) → place v m ≡ o → word_in k t.words q ≡ mirror_of k w q
      by_place None is = word_none q is ∙ h ∙ sym (known_none q is)
      by_place (Some p) is = dite (ℕ_discrete (index k p) (index k q))
          (λ e. word_here p q is e ∙ sym (known_here p q is e))
          (λ ne. word_far p q is ne ∙ h ∙ sym (known_far p q is ne))

  -- A word that the step is not on, or that it leaves as it finds it, stays.
  pub stays : (q : Place) → ((p : Place) → place v m ≡ Some p → index k p ≡ index k q → left ≡ number_found k s v m)
      → word_in k t.words q ≡ word_in k s.words q
  stays q same = by_place (place v m) refl
    where
      by_place : (o : Option Place) → place v m ≡ o → word_in k t.words q ≡ word_in k s.words q
      by_place None is = word_none q is
      by_place (Some p) is = dite (ℕ_discrete (index k p) (index k q))
          (λ e. word_here p q is e ∙ same p is e ∙ found_is p is ∙ ap (λ (z : ℕ). get_or s.words z 0) e)
          (λ ne. word_far p q is ne)
