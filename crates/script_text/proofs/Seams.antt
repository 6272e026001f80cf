-- A list that is cut at two of its items.
use Rattle.std.proofs.Common.{◌≡◌, ◌⊎◌, List, [], ◌∷◌, ◌++◌, inl, inr, refl, sym}

first_same : {A : Type 0} (x y : A) (xs ys : List A) → x ∷ xs ≡ y ∷ ys → x ≡ y
first_same x y xs ys same = cc

rest_same : {A : Type 0} (x y : A) (xs ys : List A) → x ∷ xs ≡ y ∷ ys → xs ≡ ys
rest_same x y xs ys same = cc

put_before : {A : Type 0} (x y : A) (xs ys : List A) → x ≡ y → xs ≡ ys → x ∷ xs ≡ y ∷ ys
put_before x y xs ys first rest = cc

-- the cuts are one, or one of them is behind the other
pub two_cuts : {A : Type 0} (xs : List A) (a : A) (behind : List A) (ys : List A) (b : A) (after : List A) → xs ++ a ∷ behind ≡ ys ++ b ∷ after
    → ((xs ≡ ys) × (a ≡ b)) ⊎ ((more : List A) × (ys ≡ xs ++ a ∷ more)) ⊎ ((more : List A) × (xs ≡ ys ++ b ∷ more))
two_cuts [] a behind [] b after same = inl (refl, first_same a b behind after same)
two_cuts [] a behind (y ∷ ys) b after same = inr (inl (ys, put_before y a ys ys (sym (first_same a y _ _ same)) refl))
two_cuts (x ∷ xs) a behind [] b after same = inr (inr (xs, put_before x b xs xs (first_same x b _ _ same) refl))
two_cuts (x ∷ xs) a behind (y ∷ ys) b after same =
    let first = first_same x y _ _ same in
    elim (two_cuts xs a behind ys b after (rest_same x y _ _ same)) [
      | inl (fronts, items) ↦ inl (put_before x y xs ys first fronts, items)
      | inr (inl (more, is)) ↦ inr (inl (more, put_before y x ys (xs ++ a ∷ more) (sym first) is))
      | inr (inr (more, is)) ↦ inr (inr (more, put_before x y xs (ys ++ b ∷ more) first is))
    ]
