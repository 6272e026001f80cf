-- The first item of what is left of a list is taken.
use Rattle.std.proofs.Common.{Contains, List, ap, length, map, subst, sym, take, drop, ⊎_elim, ◌+◌, ◌++◌, ◌<◌, ◌∙◌, ◌∷◌, ◌≡◌, [], ℕ}
use Rattle.std.proofs.lemmas.List.{map-append}
use Rattle.std.proofs.lemmas.List.Elements.{Contains-push_cases}
use Rattle.std.specs.Prelude.{slice_index_or}
use Rattle.worker_pool.proofs.Places.{first_left, front_more, next_left}

module _ {A : Type 0} (xs left then : List A) (k : ℕ) (x : A) (is_left : left ≡ drop k xs) (lt : k < length xs) (first : x ≡ slice_index_or left 0 x) (rest : then ≡ take 0 left ++ drop 1 left) where
  pub next : then ≡ drop (k + 1) xs
  next = next_left xs left then k is_left rest

  pub taken : take (k + 1) xs ≡ take k xs ++ x ∷ []
  taken = front_more xs k x (first_left xs left k x is_left lt first)

-- and put behind others, as an image or by an image
module _ {A B : Type 0} (f : A → B) where
  pub image_put : (ys zs : List B) (k : ℕ) (xs : List A) (x : A) (y : B) → take (k + 1) xs ≡ take k xs ++ x ∷ [] → ys ≡ map f (take k xs) → zs ≡ ys ++ y ∷ [] → y ≡ f x → zs ≡ map f (take (k + 1) xs)
  image_put ys zs k xs x y more is put same =
      put ∙ ap (λ (l : List B). l ++ y ∷ []) is ∙ ap (λ (z : B). map f (take k xs) ++ z ∷ []) same ∙ sym (map-append f (take k xs) (x ∷ [])) ∙ ap (map f) (sym more)

  pub put_image : (ys zs : List A) (k : ℕ) (xs : List B) (x : B) (y : A) → take (k + 1) xs ≡ take k xs ++ x ∷ [] → map f ys ≡ take k xs → zs ≡ ys ++ y ∷ [] → f y ≡ x → map f zs ≡ take (k + 1) xs
  put_image ys zs k xs x y more is put same =
      ap (map f) put ∙ map-append f ys (y ∷ []) ∙ ap (λ (l : List B). l ++ f y ∷ []) is ∙ ap (λ (z : B). take k xs ++ z ∷ []) same ∙ sym more

  -- what is said of the image of each item is said of one more
  pub all_put : (ys zs : List A) (y : A) (b : B) → zs ≡ ys ++ y ∷ [] → ((z : A) → Contains ys z → f z ≡ b) → f y ≡ b → (z : A) → Contains zs z → f z ≡ b
  all_put ys zs y b put each same z among = ⊎_elim (each z) (λ is. ap f (sym is) ∙ same) (Contains-push_cases ys y z (subst (λ (l : List A). Contains l z) put among))
