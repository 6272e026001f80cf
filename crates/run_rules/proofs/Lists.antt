-- Lists, and numbers beside one another.
use Rattle.std.proofs.Common.{Bool, Contains, List, [], ap, arith, cond, inl, inr, length, map, refl, suc, sym, zero, ⊎_elim, ◌+◌, ◌<◌, ◌∙◌}
use Rattle.std.proofs.Common.{◌∷◌, ◌≡◌, ◌≤◌, ◌⊎◌, ℕ}
use Rattle.std.proofs.lemmas.List.Elements.{Contains-append_right}
use Rattle.std.proofs.lemmas.List.Sums.{sum_by-cons}
use mathlib.Core.Option.{some, some-injective, some-ne-none}
use lib.ListN.{get_elem?}
use Rattle.std.specs.Prelude.{count_by}
use Rattle.worker_pool.specs.Courses.{At}

-- one number is at most another, or above it
pub not_above : (m n : ℕ) → (m ≤ n) ⊎ (n < m)
not_above zero n = inl (omega arith)
not_above (suc m) zero = inr (omega arith)
not_above (suc m) (suc n) = ⊎_elim (λ (h : m ≤ n). inl (omega arith)) (λ (h : n < m). inr (omega arith)) (not_above m n)

module _ {A : Type 0} where
  -- a place of the list
  pub record HasAt (xs : List A) (k : ℕ) : Type 0 where
    pub item : A
    pub at : get_elem? xs k ≡ some item

module _ {A B : Type 0} where
  -- what stands in a list of images is the image of what stands in the list
  pub record IsImage (f : A → B) (xs : List A) (k : ℕ) (y : B) : Type 0 where
    pub item : A
    pub at : get_elem? xs k ≡ some item
    pub is : f item ≡ y

  pub image : (f : A → B) (xs : List A) (k : ℕ) (y : B) → get_elem? (map f xs) k ≡ some y → IsImage f xs k y
  image f [] k y e = absurd (some-ne-none y (sym e))
  image f (x ∷ xs) zero y e = record { item = x; at = refl; is = some-injective (f x) y e }
  image f (x ∷ xs) (suc k) y e = let h = image f xs k y e in record { item = h.item; at = h.at; is = h.is }

  -- two lists of images are the same where the items at each place have the same image
  pub same_images : {D : Type 0} (f : A → D) (g : B → D) (xs : List A) (ys : List B) → length xs ≡ length ys
      → ((k : ℕ) (x : A) (y : B) → get_elem? xs k ≡ some x → get_elem? ys k ≡ some y → f x ≡ g y) → map f xs ≡ map g ys
  same_images f g [] [] same each = refl
  same_images f g [] (y ∷ ys) same each = absurd cc
  same_images f g (x ∷ xs) [] same each = absurd cc
  same_images {D} f g (x ∷ xs) (y ∷ ys) same each =
      let rest = same_images f g xs ys (omega arith) (λ k a b at there. each (suc k) a b at there) in
      let first : f x ≡ g y = each zero x y refl refl in
      ap (λ (z : D). z ∷ map f xs) first ∙ ap (λ (zs : List D). g y ∷ zs) rest

  -- where there are as many of the one as of the other, there is one of these beside each of those
  pub beside : (xs : List A) (ys : List B) (k : ℕ) (y : B) → length xs ≡ length ys → get_elem? ys k ≡ some y → HasAt xs k
  beside xs [] k y same e = absurd (some-ne-none y (sym e))
  beside [] (z ∷ ys) k y same e = absurd cc
  beside (x ∷ xs) (z ∷ ys) zero y same e = record { item = x; at = refl }
  beside (x ∷ xs) (z ∷ ys) (suc k) y same e = let h = beside xs ys k y (omega arith) e in record { item = h.item; at = h.at }

module _ {A : Type 0} where
  -- what stands at a place is in the list
  pub there : (xs : List A) (k : ℕ) (x : A) → get_elem? xs k ≡ some x → Contains xs x
  there [] k x e = absurd (some-ne-none x (sym e))
  there (y ∷ xs) zero x e = (0, (omega arith), some-injective y x e)
  there (y ∷ xs) (suc k) x e = Contains-append_right (y ∷ []) xs x (there xs k x e)

  pub at_place : (xs : List A) (k : ℕ) (x : A) → get_elem? xs k ≡ some x → At xs k x
  at_place [] k x e = absurd (some-ne-none x (sym e))
  at_place (y ∷ xs) zero x e = ((omega arith), some-injective y x e)
  at_place (y ∷ xs) (suc k) x e = let h = at_place xs k x e in let small = h.0 in ((omega arith), h.1)

  -- what stands at one place is one
  pub one : (xs : List A) (k : ℕ) (x y : A) → get_elem? xs k ≡ some x → get_elem? xs k ≡ some y → x ≡ y
  one xs k x y e f = some-injective x y (sym e ∙ f)

-- images of images
pub both : {A B D : Type 0} (f : A → B) (g : B → D) (xs : List A) → map g (map f xs) ≡ map (λ x. g (f x)) xs
both f g [] = refl
both {A} {B} {D} f g (x ∷ xs) = ap (λ (ys : List D). g (f x) ∷ ys) (both f g xs)

-- as many images pass a test as what they are of
pub counted : {A B : Type 0} (f : A → B) (test : B → Bool) (xs : List A) → count_by test (map f xs) ≡ count_by (λ x. test (f x)) xs
counted f test [] = refl
counted f test (x ∷ xs) =
    sum_by-cons (λ y. cond (test y) 1 0) (f x) (map f xs)
    ∙ ap (λ n. cond (test (f x)) 1 0 + n) (counted f test xs)
    ∙ sym (sum_by-cons (λ y. cond (test (f y)) 1 0) x xs)
