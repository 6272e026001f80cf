-- What a step makes of the link of a slot, and of what its pass knows of it.
use Rattle.std.proofs.Common.{◌≡◌, ℕ, ◌/◌, ◌<◌, List, ◌∷◌, Option, Some, None, eq-eqb, ne_eqb, sym, refl, ap, ◌∙◌, subst, arith, cond, Bool, false, ◌==◌}
use mathlib.Core.Logic.{dite}
use mathlib.Core.Option.{some}
use native.Mathlib.Decide.{ℕ_discrete}
use lib.ListN.{get_elem?}
use Rattle.core_model.specs.declared.moves.Move.{Move}
use Rattle.core_model.specs.declared.moves.Move.TheVariants.{Look, Enter, Leave, Take, Evict, Raise, Doom, LoadSide, StoreSide, Own, Publish, Loosen, GetLink}
use Rattle.link_word.specs.Map.{taken_in}
use Rattle.core_model.specs.declared.spot.Spot.TheVariants.{Free as FreeSpot}
use Rattle.core_model.specs.declared.view.Item.{Item}
use Rattle.core_model.specs.declared.view.Place.{Place}
use Rattle.core_model.specs.declared.view.Place.TheVariants.{Anchor, Beside, Counter, Link, LogCounter, Map, Turn}
use Rattle.core_model.specs.declared.view.View.{View}
use Rattle.core_model.specs.AnchorMoves.{MayEnd, MayRaise, StartsRight}
use Rattle.core_model.specs.SlotMoves.{MayStore}
use Rattle.core_model.specs.Layout.{Setting, index, word_in}
use Rattle.core_model.specs.Sound.{Sound}
use Rattle.core_model.specs.State.{State}
use Rattle.core_model.specs.Steps.{after, finding, number_found, view_after}
use Rattle.core_model.specs.Table.{MayStep, item_of, place}
use Rattle.core_model.proofs.OneSpot.{unwritten}
use Rattle.core_model.proofs.Places.{beside_inside}
use Rattle.core_model.proofs.StepPlaces.{counted_inside, either_inside, reading_inside, using_inside, writing_inside}
use Rattle.core_alone.specs.Alone.{is_unlinked, link_in}
use Rattle.core_alone.proofs.Following.{known_far, known_here, known_none, mirror_of, word_far, word_here, word_none}

-- a step that is on no link, and reserves no slot
abbrev pub OffLinks : Move → Type 0
OffLinks (Own t slot) = ⊥
OffLinks (Publish t slot link) = ⊥
OffLinks (Loosen t slot) = ⊥
OffLinks (GetLink t slot) = ⊥
OffLinks m = Unit {0}

-- a place of an anchor is one of the table's, and it is none of a link
abbrev pub FarFromLinks : {X : Type 0} → Setting X → Option Place → Type 0
FarFromLinks k (Some (Anchor a)) = a < k.anchors
FarFromLinks k (Some (Beside side a)) = a < k.anchors
FarFromLinks k (Some (Link slot)) = ⊥
FarFromLinks k o = Unit {0}

module _ {X : Type 0} (k : Setting X) where
  far_at : (q : Place) (slot : ℕ) → slot < k.slots → FarFromLinks k (Some q) → index k q ≡ index k (Link slot) → ⊥
  far_at (Anchor a) slot lt row e = absurd (let r = row in omega arith)
  far_at (Beside side a) slot lt row e = absurd (let b = beside_inside k side a row in omega arith)
  far_at (Map x) slot lt row e = absurd (omega arith)
  far_at (Link x) slot lt row e = row
  far_at (Turn x) slot lt row e = absurd (omega arith)
  far_at Counter slot lt row e = absurd (omega arith)
  far_at LogCounter slot lt row e = absurd (omega arith)

  pub far_place : (o : Option Place) (slot : ℕ) → slot < k.slots → FarFromLinks k o → (p : Place) → o ≡ Some p
      → index k p ≡ index k (Link slot) → ⊥
  far_place o slot lt row p is e = far_at p slot lt (subst (FarFromLinks k) is row) e

module _ {X : Type 0} (v : View X) where
  pub unlinked_else : (m : Move) (n slot : ℕ) (xs : List Item) → OffLinks m → is_unlinked slot (item_of v m n ∷ xs) ≡ is_unlinked slot xs
  unlinked_else (Own t x) n slot xs h = absurd h
  unlinked_else (Publish t x link) n slot xs h = absurd h
  unlinked_else (Loosen t x) n slot xs h = absurd h
  unlinked_else (GetLink t x) n slot xs h = absurd h
  unlinked_else m n slot xs h = refl

module _ {X : Type 0} (k : Setting X) (s : State X) (i : ℕ) (v : View X) (so : Sound k s) (at : get_elem? s.views i ≡ some v) where
  pub far_from_links : (m : Move) → MayStep k s v m → OffLinks m → FarFromLinks k (place v m)
  far_from_links (Look a) may h = may.allowed
  far_from_links (Enter t a) may h = may.allowed.0
  far_from_links (Leave t) may h = counted_inside k s i v so at may.pass t may.allowed.0 may.allowed.1
  far_from_links (Take t a u) may h = may.allowed.0
  far_from_links (Evict t a) may h = may.allowed.0
  far_from_links (Raise t to) may h =
      either_inside k s i v so at may.pass t (λ w. MayRaise w to × StartsRight k s w) (λ f. MayEnd f to) may.allowed.0 may.allowed.1
  far_from_links (Doom t) may h = reading_inside k s i v so at may.pass t may.allowed.0 may.allowed.1
  far_from_links (LoadSide t side) may h = using_inside k s i v so at may.pass t may.allowed.0 may.allowed.1
  far_from_links (StoreSide t side value) may h = writing_inside k s i v so at may.pass t
      (λ w. (w.is_appending ≡ false) × MayStore k w side value) (let y = may.allowed.0 in omega arith) may.allowed.2
  far_from_links (Own t x) may h = absurd h
  far_from_links (Publish t x link) may h = absurd h
  far_from_links (Loosen t x) may h = absurd h
  far_from_links (GetLink t x) may h = absurd h
  far_from_links m may h = tt

  -- Of a link word, and of what the pass has of it, where a step is on none.
  module _ (m : Move) (may : MayStep k s v m) (slot : ℕ) (lt : slot < k.slots) where
    abbrev t : State X
    t = after k s i v m

    abbrev w : View X
    w = view_after v m (finding k s v m)

    -- the step is on no link
    off_word : FarFromLinks k (place v m) → word_in k t.words (Link slot) ≡ word_in k s.words (Link slot)
    off_word row = by_place (place v m) refl
      where
        by_place : (o : Option Place) → place v m ≡ o → word_in k t.words (Link slot) ≡ word_in k s.words (Link slot)
        by_place None is = word_none k s i v so at m may (Link slot) is
        by_place (Some p) is = word_far k s i v so at m may p (Link slot) is (far_place k (place v m) slot lt row p is)

    off_known : FarFromLinks k (place v m) → mirror_of k w (Link slot) ≡ mirror_of k v (Link slot)
    off_known row = by_place (place v m) refl
      where
        by_place : (o : Option Place) → place v m ≡ o → mirror_of k w (Link slot) ≡ mirror_of k v (Link slot)
        by_place None is = known_none k s i v so at m may (Link slot) is
        by_place (Some p) is = known_far k s i v so at m may p (Link slot) is (far_place k (place v m) slot lt row p is)

    same_link : is_unlinked slot w.trail ≡ is_unlinked slot v.trail → mirror_of k w (Link slot) ≡ mirror_of k v (Link slot)
        → link_in k w slot ≡ link_in k v slot
    same_link e f = ap (λ (b : Bool). cond b 0 (mirror_of k w (Link slot))) e ∙ ap (λ (z : ℕ). cond (is_unlinked slot v.trail) 0 z) f

    off_link : OffLinks m → word_in k s.words (Link slot) ≡ link_in k v slot → word_in k t.words (Link slot) ≡ link_in k w slot
    off_link off h = off_word (far_from_links m may off) ∙ h
        ∙ sym (same_link (unlinked_else v m (number_found k s v m) slot v.trail off) (off_known (far_from_links m may off)))

    -- it is on the link of a slot
    on_link : (x : ℕ) → place v m ≡ Some (Link x) → is_unlinked slot w.trail ≡ cond (x == slot) false (is_unlinked slot v.trail)
        → word_in k s.words (Link slot) ≡ link_in k v slot → word_in k t.words (Link slot) ≡ link_in k w slot
    on_link x is unlinked h = dite (ℕ_discrete x slot)
        (λ e. word_here k s i v so at m may (Link x) (Link slot) is (ap (λ (z : ℕ). index k (Link z)) e)
        ∙ sym (ap (λ (b : Bool). cond b 0 (mirror_of k w (Link slot)))
        (unlinked ∙ ap (λ (b : Bool). cond b false (is_unlinked slot v.trail)) (eq-eqb x slot e)) ∙ known_here k s i v so at m may (Link x)
        (Link slot) is (ap (λ (z : ℕ). index k (Link z)) e)))
        (λ ne. word_far k s i v so at m may (Link x) (Link slot) is (λ e. ne (omega arith)) ∙ h
        ∙ sym (same_link (unlinked ∙ ap (λ (b : Bool). cond b false (is_unlinked slot v.trail)) (ne_eqb x slot ne))
        (known_far k s i v so at m may (Link x) (Link slot) is (λ e. ne (omega arith)))))

  -- a slot that is found free has no link
  own_link : (t x : ℕ) (may : MayStep k s v (Own t x)) (slot : ℕ) → slot < k.slots → word_in k s.words (Link slot) ≡ link_in k v slot
      → word_in k (after k s i v (Own t x)).words (Link slot) ≡ link_in k (view_after v (Own t x) (finding k s v (Own t x))) slot
  own_link t x may slot lt h = dite (ℕ_discrete x slot)
      (λ e. dite (ℕ_discrete (taken_in (number_found k s v (Own t x)) slot) 0)
      (λ z. off_word (Own t x) may slot lt tt ∙ free_link e z ∙ sym
      (let a = eq-eqb x slot e in let b = eq-eqb (taken_in (number_found k s v (Own t x)) slot) 0 z in rw (a, b) refl))
      (λ nz. still (let a = eq-eqb x slot e in let b = ne_eqb (taken_in (number_found k s v (Own t x)) slot) 0 nz in rw (a, b) refl)))
      (λ ne. still (let a = ne_eqb x slot ne in rw a refl))
    where
      free_link : x ≡ slot → taken_in (number_found k s v (Own t x)) slot ≡ 0 → word_in k s.words (Link slot) ≡ 0
      free_link e z = unwritten k s so.anchors.shaped so.slots slot lt FreeSpot tt
          (subst (λ (y : ℕ). taken_in (word_in k s.words (Map (y / 64))) slot ≡ 0) e z)

      still : is_unlinked slot (view_after v (Own t x) (finding k s v (Own t x))).trail ≡ is_unlinked slot v.trail
          → word_in k (after k s i v (Own t x)).words (Link slot) ≡ link_in k (view_after v (Own t x) (finding k s v (Own t x))) slot
      still same = off_word (Own t x) may slot lt tt ∙ h ∙ sym (same_link (Own t x) may slot lt same (off_known (Own t x) may slot lt tt))

  -- Where the pass had the link before a step of its own, it has it after it.
  pub link_follows : (m : Move) (may : MayStep k s v m) (slot : ℕ) → slot < k.slots → word_in k s.words (Link slot) ≡ link_in k v slot
      → word_in k (after k s i v m).words (Link slot) ≡ link_in k (view_after v m (finding k s v m)) slot
  link_follows (Own t x) may slot lt h = own_link t x may slot lt h
  link_follows (Publish t x link) may slot lt h = on_link (Publish t x link) may slot lt x refl refl h
  link_follows (Loosen t x) may slot lt h = on_link (Loosen t x) may slot lt x refl refl h
  link_follows (GetLink t x) may slot lt h = on_link (GetLink t x) may slot lt x refl refl h
  link_follows m may slot lt h = off_link m may slot lt tt h

  -- a slot that it reserves from now on has none, and it knows so
  pub own_fresh : (t x : ℕ) (may : MayStep k s v (Own t x)) → taken_in (number_found k s v (Own t x)) x ≡ 0
      → word_in k (after k s i v (Own t x)).words (Link x) ≡ link_in k (view_after v (Own t x) (finding k s v (Own t x))) x
  own_fresh t x may z = off_word (Own t x) may x may.allowed.1 tt ∙ unwritten k s so.anchors.shaped so.slots x may.allowed.1 FreeSpot tt z
      ∙ sym (let a = eq-eqb x x refl in let b = eq-eqb (taken_in (number_found k s v (Own t x)) x) 0 z in rw (a, b) refl)

  -- nor does one that it loosened
  pub loosen_fresh : (t x : ℕ) (may : MayStep k s v (Loosen t x))
      → word_in k (after k s i v (Loosen t x)).words (Link x) ≡ link_in k (view_after v (Loosen t x) (finding k s v (Loosen t x))) x
  loosen_fresh t x may = word_here k s i v so at (Loosen t x) may (Link x) (Link x) refl refl
      ∙ sym (ap (λ (b : Bool). cond b 0 (mirror_of k (view_after v (Loosen t x) (finding k s v (Loosen t x))) (Link x)))
      (unlinked x v.trail) ∙ known_here k s i v so at (Loosen t x) may (Link x) (Link x) refl refl)
    where
      unlinked : (x : ℕ) (xs : List Item) → cond (x == x) false (is_unlinked x xs) ≡ false
      unlinked x xs = let b = eq-eqb x x refl in rw b refl
