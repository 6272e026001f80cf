-- Lists of which the last element was taken off.
use Rattle.std.proofs.Common.{◌≡◌, ◌∷◌, ◌++◌, ◌∙◌, All, List, Option, Some, [], ap, arith, subst, suc, zero}
use Rattle.std.specs.Option.{option_to_list}

module _ {A : Type 0} where
  -- a list from which the last was popped
  pub popped_is : (xs front : List A) (o : Option A) (y : A) → xs ≡ front ++ option_to_list o → o ≡ Some y → xs ≡ front ++ y ∷ []
  popped_is xs front o y is has = is ∙ ap (λ (z : Option A). front ++ option_to_list z) has

module _ {A : Type 0} (P : A → Type 0) where
  -- of a list of which all are so, all but the last are, and the last is
  pub front_all : (xs : List A) (y : A) (zs : List A) → zs ≡ xs ++ y ∷ [] → All P zs → All P xs
  front_all xs y zs is h = front xs (subst (All P) is h)
    where
      front : (xs : List A) → All P (xs ++ y ∷ []) → All P xs
      front [] h j d lt = absurd (omega arith)
      front (x ∷ xs) h zero d lt = h 0 d (omega arith)
      front (x ∷ xs) h (suc j) d lt = front xs (λ i e l. h (suc i) e (omega arith)) j d (omega arith)

  pub last_all : (xs : List A) (y : A) (zs : List A) → zs ≡ xs ++ y ∷ [] → All P zs → P y
  last_all xs y zs is h = last xs (subst (All P) is h)
    where
      last : (xs : List A) → All P (xs ++ y ∷ []) → P y
      last [] h = h 0 y (omega arith)
      last (x ∷ xs) h = last xs (λ i e l. h (suc i) e (omega arith))
