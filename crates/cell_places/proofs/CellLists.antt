-- Cells that go into places and come out again.
use Rattle.std.proofs.Common.{◌≡◌, ◌≢◌, ◌+◌, ℕ, zero, suc, Bool, false, List, [], ◌∷◌, ◌++◌, map, get_or, get_or-set_other, length, reverse, set, sym, refl, ap, ◌∙◌, subst, take, arith, Option, Some, None, unwrap_or}
use mathlib.Core.Option.{some, some-injective, some-ne-none}
use lib.ListN.{get_elem?}
use Rattle.std.proofs.lemmas.List.{append_assoc, map-append, reverse-append, reverse-reverse}

module _ {C : Type 0} where
  abbrev head_of : List (Option C) → Option C → Option C
  head_of [] d = d
  head_of (x ∷ xs) d = x

  abbrev tail_of : List (Option C) → List (Option C)
  tail_of [] = []
  tail_of (x ∷ xs) = xs

  some_same : (c d : C) → Some c ≡ Some d → c ≡ d
  some_same c d e = ap (λ (o : Option C). unwrap_or o c) e

  -- places that each have a cell have these cells alone
  pub same_cells : (xs ys : List C) → map Some xs ≡ map Some ys → xs ≡ ys
  same_cells [] [] e = refl
  same_cells [] (y ∷ ys) e = absurd (let z = ap length e in omega arith)
  same_cells (x ∷ xs) [] e = absurd (let z = ap length e in omega arith)
  same_cells (x ∷ xs) (y ∷ ys) e = let h = some_same x y (ap (λ (z : List (Option C)). head_of z None) e) in let t = same_cells xs ys (ap tail_of e) in (λ i. h i ∷ t i)

  pub all_full : (xs : List C) → reverse (map Some xs) ≡ map Some (reverse xs)
  all_full [] = refl
  all_full (x ∷ xs) = reverse-append (Some x ∷ []) (map Some xs) ∙ ap (λ (z : List (Option C)). z ++ Some x ∷ []) (all_full xs)
      ∙ sym (map-append Some (reverse xs) (x ∷ [])) ∙ sym (ap (map Some) (reverse-append (x ∷ []) xs))

  -- of places that each have a cell, those but the last do, and the last does
  pub front_full : (xs : List (Option C)) (y : Option C) (row : List C) → xs ++ y ∷ [] ≡ map Some row → (front : List C) × (xs ≡ map Some front) × ((c : C) × (y ≡ Some c))
  front_full [] y [] e = absurd (let z = ap length e in omega arith)
  front_full [] y (r ∷ row) e = ([], refl, (r, ap (λ (z : List (Option C)). head_of z None) e))
  front_full (x ∷ xs) y [] e = absurd (let z = ap length e in omega arith)
  front_full (x ∷ xs) y (r ∷ row) e = let f = front_full xs y row (ap tail_of e) in let h = ap (λ (z : List (Option C)). head_of z None) e in (r ∷ f.0, (λ i. h i ∷ f.1 i), f.2)

  pub moves_on : (cells : List C) (c : C) (places front : List (Option C)) (place : Option C) (all : List (Option C)) → all ≡ map Some cells ++ reverse places → places ≡ front ++ place ∷ [] → place ≡ Some c
      → all ≡ map Some (cells ++ c ∷ []) ++ reverse front
  moves_on cells c places front place all moved is has = moved
      ∙ ap (λ (z : List (Option C)). map Some cells ++ reverse z) is
      ∙ ap (λ (z : List (Option C)). map Some cells ++ z) (reverse-append front (place ∷ []))
      ∙ ap (λ (z : Option C). map Some cells ++ (z ∷ reverse front)) has
      ∙ sym (append_assoc (map Some cells) (Some c ∷ []) (reverse front))
      ∙ ap (λ (z : List (Option C)). z ++ reverse front) (sym (map-append Some cells (c ∷ [])))

  pub turned_back : (xs ys : List (Option C)) → ys ≡ reverse xs → xs ≡ reverse ys
  turned_back xs ys is = sym (reverse-reverse xs) ∙ ap reverse (sym is)

module _ {C : Type 0} where
  -- a place of a row that each have a cell has one
  pub some_there : (row : List C) (xs : List (Option C)) (k : ℕ) (x : Option C) → xs ≡ map Some row → get_elem? xs k ≡ some x → (c : C) × (x ≡ Some c)
  some_there row xs k x is at = there row k (subst (λ (z : List (Option C)). get_elem? z k ≡ some x) is at)
    where
      there : (row : List C) (k : ℕ) → get_elem? (map Some row) k ≡ some x → (c : C) × (x ≡ Some c)
      there [] k e = absurd (some-ne-none x (sym e))
      there (c ∷ row) zero e = (c, sym (some-injective (Some c) x e))
      there (c ∷ row) (suc k) e = there row k e

  -- the cell of the next place goes behind those that were taken
  pub takes_next : (cells cells' : List C) (xs : List (Option C)) (k : ℕ) (x : Option C) (c : C) → map Some cells ≡ take k xs → get_elem? xs k ≡ some x → x ≡ Some c → cells' ≡ cells ++ c ∷ [] → map Some cells' ≡ take (k + 1) xs
  takes_next cells cells' xs k x c were at is are = ap (map Some) are ∙ map-append Some cells (c ∷ []) ∙ ap (λ (z : List (Option C)). z ++ Some c ∷ []) were ∙ ap (λ (z : Option C). take k xs ++ z ∷ []) (sym is)
      ∙ sym (next xs k at) ∙ (let more : suc k ≡ k + 1 = omega arith in ap (λ (n : ℕ). take n xs) more)
    where
      next : (xs : List (Option C)) (k : ℕ) → get_elem? xs k ≡ some x → take (suc k) xs ≡ take k xs ++ x ∷ []
      next [] k e = absurd (some-ne-none x (sym e))
      next (y ∷ ys) zero e = ap (λ (z : Option C). z ∷ []) (some-injective y x e)
      next (y ∷ ys) (suc k) e = ap (λ (z : List (Option C)). y ∷ z) (next ys k e)

-- a place that was emptied is not full
pub emptied : (fs gs : List Bool) (k j : ℕ) → gs ≡ set fs k false → j ≡ k → get_or gs j false ≡ false
emptied fs gs k j is same = ap (λ (z : List Bool). get_or z j false) is ∙ ap (λ (n : ℕ). get_or (set fs k false) n false) same ∙ here fs k
  where
    here : (fs : List Bool) (k : ℕ) → get_or (set fs k false) k false ≡ false
    here [] k = refl
    here (f ∷ fs) zero = refl
    here (f ∷ fs) (suc k) = here fs k

-- and each other one is as it was
pub not_emptied : (fs gs : List Bool) (k j : ℕ) → gs ≡ set fs k false → j ≢ k → get_or gs j false ≡ get_or fs j false
not_emptied fs gs k j is ne = ap (λ (z : List Bool). get_or z j false) is ∙ rw get_or-set_other refl
