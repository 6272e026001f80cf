-- What a pass has of words after a step: of the word that it is on what the step left, of a slot that it reserved no link, and of any
-- other word what it had.
use Rattle.std.proofs.Common.{◌≡◌, ◌≢◌, ℕ, ◌/◌, [], ◌∷◌, ◌++◌, Option, Some, None, Bool, true, false, cond, ◌==◌, eq-eqb, ne_eqb, sym, refl, ap, ◌∙◌, subst, arith, Contains}
use Rattle.std.proofs.lemmas.List.Elements.{Contains-append_left, Contains-append_right}
use mathlib.Core.Logic.{dite}
use native.Mathlib.Decide.{ℕ_discrete}
use Rattle.link_word.specs.Map.{taken_in}
use Rattle.core_model.specs.declared.moves.Move.{Move}
use Rattle.core_model.specs.declared.moves.Move.TheVariants.{GetLink, Loosen, Own, Publish}
use Rattle.core_model.specs.declared.view.Place.{Place}
use Rattle.core_model.specs.declared.view.Place.TheVariants.{Link, Map}
use Rattle.core_model.specs.declared.view.View.{View}
use Rattle.core_model.specs.Deeds.{mirrored}
use Rattle.core_model.specs.Layout.{Setting, index}
use Rattle.core_model.specs.State.{Finding}
use Rattle.core_model.specs.Steps.{traces_of, view_after}
use Rattle.core_model.specs.Table.{left_by, place}
use Rattle.core_alone.specs.Alone.{has_word, is_unlinked, link_in}
use Rattle.core_alone.specs.Touched.{places_in, touched_by}
use Rattle.core_alone.proofs.Following.{mirror_of}

module _ {X : Type 0} (k : Setting X) (v : View X) where
  -- What its last steps left.

  traced : (o : Option Place) (n : ℕ) (p : Place) → ((q : Place) → Contains (places_in o) q → index k q ≡ index k p → ⊥)
      → mirrored k (index k p) (traces_of o n ++ v.mirror) ≡ mirror_of k v p
  traced None n p far = refl
  traced (Some q) n p far = let h = ne_eqb (index k q) (index k p) (far q (0, omega arith, refl)) in rw h refl

  traced_here : (o : Option Place) (n : ℕ) (p : Place) → o ≡ Some p → mirrored k (index k p) (traces_of o n ++ v.mirror) ≡ n
  traced_here o n p is = ap (λ (z : Option Place). mirrored k (index k p) (traces_of z n ++ v.mirror)) is
      ∙ (let h = eq-eqb (index k p) (index k p) refl in rw h refl)

  slot_is : (y slot : ℕ) → ◌≡◌ {A = Option Place} (Some (Link y)) (Some (Link slot)) → y ≡ slot
  slot_is y slot e = ap link_slot e
    where
      link_slot : Option Place → ℕ
      link_slot (Some (Link n)) = n
      link_slot o = y

  -- every step touches the word that it is on
  on_word : (m : Move) (n : ℕ) (q : Place) → Contains (places_in (place v m)) q → Contains (touched_by v m n) q
  on_word (Own t x) n q c = Contains-append_left (Map (x / 64) ∷ []) (cond (taken_in n x == 0) (Link x ∷ []) []) q c
  on_word m n q c = c

  module _ (m : Move) (x : Finding X) where
    abbrev w : View X
    w = view_after v m x

    -- A word that the step does not touch.

    far : (p : Place) → ((q : Place) → Contains (touched_by v m x.word) q → index k q ≡ index k p → ⊥) → mirror_of k w p ≡ mirror_of k v p
    far p untouched = traced (place v m) (left_by v m x.word) p (λ q c e. untouched q (on_word m x.word q c) e)

  -- since the trail tells the same of the link, the pass has the same of it
  same_link : (w : View X) (slot : ℕ) → is_unlinked slot w.trail ≡ is_unlinked slot v.trail
      → mirror_of k w (Link slot) ≡ mirror_of k v (Link slot)
      → link_in k w slot ≡ link_in k v slot
  same_link w slot e f = ap (λ (b : Bool). cond b 0 (mirror_of k w (Link slot))) e ∙ ap (λ (z : ℕ). cond (is_unlinked slot v.trail) 0 z) f

  -- a step on the link of another slot, and one that reserves another slot or none, tell nothing of the link
  other_slot : (x slot : ℕ) (b : Bool) → x ≢ slot → cond (x == slot) b (is_unlinked slot v.trail) ≡ is_unlinked slot v.trail
  other_slot x slot b ne = let z = ne_eqb x slot ne in rw z refl

  unlinked_far : (m : Move) (x : Finding X) (slot : ℕ)
      → ((q : Place) → Contains (touched_by v m x.word) q → index k q ≡ index k (Link slot) → ⊥)
      → is_unlinked slot (view_after v m x).trail ≡ is_unlinked slot v.trail
  unlinked_far (Own t y) x slot far = dite (ℕ_discrete y slot)
      (λ e. dite (ℕ_discrete (taken_in x.word y) 0)
      (λ z. absurd (far (Link y)
      (Contains-append_right (Map (y / 64) ∷ []) (cond (taken_in x.word y == 0) (Link y ∷ []) []) (Link y)
      (won (eq-eqb (taken_in x.word y) 0 z)))
      (ap (λ (n : ℕ). index k (Link n)) e)))
      (λ nz. let a = eq-eqb y slot e in let b = ne_eqb (taken_in x.word slot) 0 (λ z. nz (ap (taken_in x.word) e ∙ z)) in rw (a, b) refl))
      (λ ne. let a = ne_eqb y slot ne in rw a refl)
    where
      won : (taken_in x.word y == 0) ≡ true → Contains (cond (taken_in x.word y == 0) (Link y ∷ []) []) (Link y)
      won e = subst (λ (b : Bool). Contains (cond b (Link y ∷ []) []) (Link y)) (sym e) (0, omega arith, refl)
  unlinked_far (Publish t y link) x slot far =
      other_slot y slot false (λ e. far (Link y) (0, omega arith, refl) (ap (λ (n : ℕ). index k (Link n)) e))
  unlinked_far (Loosen t y) x slot far =
      other_slot y slot false (λ e. far (Link y) (0, omega arith, refl) (ap (λ (n : ℕ). index k (Link n)) e))
  unlinked_far (GetLink t y) x slot far =
      other_slot y slot false (λ e. far (Link y) (0, omega arith, refl) (ap (λ (n : ℕ). index k (Link n)) e))
  unlinked_far m x slot far = refl

  pub has_else : (m : Move) (x : Finding X) (p : Place) → ((q : Place) → Contains (touched_by v m x.word) q → index k q ≡ index k p → ⊥)
      → has_word k (view_after v m x) p ≡ has_word k v p
  has_else m x (Link slot) untouched = same_link (view_after v m x) slot (unlinked_far m x slot untouched) (far m x (Link slot) untouched)
  has_else m x p untouched = far m x p untouched

  -- The word that the step is on.

  on_link : (y slot : ℕ) → y ≡ slot → cond (y == slot) false (is_unlinked slot v.trail) ≡ false
  on_link y slot e = let z = eq-eqb y slot e in rw z refl

  link_left : (w : View X) (slot n : ℕ) → is_unlinked slot w.trail ≡ false → mirror_of k w (Link slot) ≡ n → link_in k w slot ≡ n
  link_left w slot n e f = ap (λ (b : Bool). cond b 0 (mirror_of k w (Link slot))) e ∙ f

  unlinked_here : (m : Move) (x : Finding X) (slot : ℕ) → place v m ≡ Some (Link slot) → is_unlinked slot (view_after v m x).trail ≡ false
  unlinked_here (Publish t y link) x slot is = on_link y slot (slot_is y slot is)
  unlinked_here (Loosen t y) x slot is = on_link y slot (slot_is y slot is)
  unlinked_here (GetLink t y) x slot is = on_link y slot (slot_is y slot is)
  unlinked_here m x slot is = cc

  pub has_left : (m : Move) (x : Finding X) (p : Place) → place v m ≡ Some p → has_word k (view_after v m x) p ≡ left_by v m x.word
  has_left m x (Link slot) is = link_left (view_after v m x) slot (left_by v m x.word) (unlinked_here m x slot is)
      (traced_here (place v m) (left_by v m x.word) (Link slot) is)
  has_left m x p is = traced_here (place v m) (left_by v m x.word) p is

  -- A slot that it reserved.
  pub has_reserved : (t slot : ℕ) (x : Finding X) → taken_in x.word slot ≡ 0 → has_word k (view_after v (Own t slot) x) (Link slot) ≡ 0
  has_reserved t slot x free = let a = eq-eqb slot slot refl in let b = eq-eqb (taken_in x.word slot) 0 free in rw (a, b) refl
