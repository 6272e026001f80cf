-- What stands at a place of a list.
use Rattle.std.proofs.Common.{◌≡◌, ◌≢◌, ◌⊎◌, inl, inr, ⊎_elim, ℕ, ◌+◌, ◌<◌, zero, suc, Bool, true, false, ◌||◌, List, [], ◌∷◌, ◌++◌, map, take, drop, length, get_or, set, sym, refl, ap, ◌∙◌, subst, arith, Contains, get_or-set_same, get_or-set_other}
use Rattle.std.specs.List.{list_any}
use Rattle.std.proofs.Math.ListN.{length-set}
use Rattle.std.proofs.lemmas.List.{get_or_default, get_or-drop, take_more}
use Rattle.worker_pool.specs.Courses.{At}

left_false : (a b : Bool) → (a || b) ≡ false → a ≡ false
left_false true b e = e
left_false false b e = refl

right_false : (a b : Bool) → (a || b) ≡ false → b ≡ false
right_false true b e = let clash : true ≡ false = e in cc
right_false false b e = e

module _ {X : Type 0} where
  pub one_at : (xs : List X) (k : ℕ) (x y : X) → At xs k x → At xs k y → x ≡ y
  one_at xs k x y a b = sym a.1 ∙ (get_or_default xs k x y a.0 ∙ b.1)

  pub at_read : (xs : List X) (k : ℕ) (d : X) → k < length xs → At xs k (get_or xs k d)
  at_read xs k d lt = (lt, get_or_default xs k (get_or xs k d) d lt)

  pub at_place : (xs : List X) (j k : ℕ) (x : X) → j ≡ k → At xs j x → At xs k x
  at_place xs j k x e a = subst (λ (n : ℕ). At xs n x) e a

  pub at_same : (xs ys : List X) (k : ℕ) (x : X) → xs ≡ ys → At xs k x → At ys k x
  at_same xs ys k x e a = subst (λ (zs : List X). At zs k x) e a

  pub at_contains : (xs : List X) (k : ℕ) (x : X) → At xs k x → Contains xs x
  at_contains xs k x a = (k, a.0, a.1)

  pub contains_at : (xs : List X) (x : X) → (h : Contains xs x) → At xs h.0 x
  contains_at xs x h = (h.1, h.2)

  -- a list that goes on
  pub at_front : (xs ys : List X) (k : ℕ) (x : X) → At xs k x → At (xs ++ ys) k x
  at_front [] ys k x a = absurd (let lt = a.0 in omega arith)
  at_front (z ∷ xs) ys zero x a = (omega arith, a.1)
  at_front (z ∷ xs) ys (suc k) x a = let rest = at_front xs ys k x ((let lt = a.0 in omega arith), a.1) in ((let lt = rest.0 in omega arith), rest.1)

  pub length_push : (xs : List X) (x : X) → length (xs ++ x ∷ []) ≡ length xs + 1
  length_push [] x = refl
  length_push (y ∷ ys) x = let rest = length_push ys x in omega arith

  pub at_last : (xs : List X) (x : X) → At (xs ++ x ∷ []) (length xs) x
  at_last [] x = (omega arith, refl)
  at_last (z ∷ xs) x = let rest = at_last xs x in ((let lt = rest.0 in omega arith), rest.1)

  pub push_cases : (xs : List X) (y x : X) (k : ℕ) → At (xs ++ y ∷ []) k x → At xs k x ⊎ ((k ≡ length xs) × (y ≡ x))
  push_cases [] y x zero a = inr (refl, a.1)
  push_cases [] y x (suc k) a = absurd (let lt = a.0 in omega arith)
  push_cases (z ∷ xs) y x zero a = inl (omega arith, a.1)
  push_cases (z ∷ xs) y x (suc k) a = ⊎_elim (λ (old : At xs k x). inl ((let lt = old.0 in omega arith), old.1)) (λ (new : (k ≡ length xs) × (y ≡ x)). inr ((let e = new.0 in omega arith), new.1))
      (push_cases xs y x k ((let lt = a.0 in omega arith), a.1))

  -- the first of what is left is taken away
  pub first_left : (xs left : List X) (k : ℕ) (x : X) → left ≡ drop k xs → k < length xs → x ≡ get_or left 0 x → At xs k x
  first_left xs left k x e lt is = (lt, sym (is ∙ (ap (λ (l : List X). get_or l 0 x) e ∙ (get_or-drop k xs 0 x ∙ ap (λ (n : ℕ). get_or xs n x) (let n : k + 0 ≡ k = omega arith in n)))))

  drop_one : (k : ℕ) (xs : List X) → drop 1 (drop k xs) ≡ drop (suc k) xs
  drop_one zero [] = refl
  drop_one zero (x ∷ xs) = refl
  drop_one (suc k) [] = refl
  drop_one (suc k) (x ∷ xs) = drop_one k xs

  pub take_none : (xs : List X) → take 0 xs ≡ []
  take_none [] = refl
  take_none (x ∷ xs) = refl

  pub take_whole : (xs : List X) → take (length xs) xs ≡ xs
  take_whole [] = refl
  take_whole (x ∷ xs) = ap (λ (l : List X). x ∷ l) (take_whole xs)

  none_taken : (xs : List X) → take 0 xs ++ drop 1 xs ≡ drop 1 xs
  none_taken [] = refl
  none_taken (x ∷ xs) = refl

  pub next_left : (xs left then : List X) (k : ℕ) → left ≡ drop k xs → then ≡ take 0 left ++ drop 1 left → then ≡ drop (k + 1) xs
  next_left xs left then k e f = f ∙ (none_taken left ∙ (ap (λ (l : List X). drop 1 l) e ∙ (drop_one k xs ∙ ap (λ (n : ℕ). drop n xs) (let n : suc k ≡ k + 1 = omega arith in n))))

  pub front_more : (xs : List X) (k : ℕ) (x : X) → At xs k x → take (k + 1) xs ≡ take k xs ++ x ∷ []
  front_more xs k x a = take_more xs k x a.0 ∙ ap (λ (y : X). take k xs ++ y ∷ []) a.1

  -- an element is put in another's place
  pub at_set_same : (xs : List X) (k : ℕ) (y x : X) → At (set xs k y) k x → k < length xs → x ≡ y
  at_set_same xs k y x a lt = sym a.1 ∙ get_or-set_same xs k y x lt

  pub at_set_other : (xs : List X) (j k : ℕ) (y x : X) → j ≢ k → At (set xs k y) j x → At xs j x
  at_set_other xs j k y x ne a = ((let long = length-set xs k y in let lt = a.0 in omega arith), sym (get_or-set_other xs k j y x ne) ∙ a.1)

  -- what no element before a place passes
  pub none_at : (p : X → Bool) (xs : List X) (j k : ℕ) (x : X) → At xs j x → j < k → list_any p (take k xs) ≡ false → p x ≡ false
  none_at p [] j k x a lt e = absurd (let at = a.0 in omega arith)
  none_at p (y ∷ xs) j zero x a lt e = absurd (omega arith)
  none_at p (y ∷ xs) zero (suc k) x a lt e = subst (λ (z : X). p z ≡ false) a.1 (left_false (p y) (list_any p (take k xs)) e)
  none_at p (y ∷ xs) (suc j) (suc k) x a lt e = none_at p xs j k x ((let at = a.0 in omega arith), a.1) (omega arith) (right_false (p y) (list_any p (take k xs)) e)

module _ {X Y : Type 0} (f : X → Y) where
  pub map_push : (xs : List X) (x : X) → map f (xs ++ x ∷ []) ≡ map f xs ++ f x ∷ []
  map_push [] x = refl
  map_push (y ∷ ys) x = ap (λ (l : List Y). f y ∷ l) (map_push ys x)

  pub at_map : (xs : List X) (k : ℕ) (x : X) → At xs k x → At (map f xs) k (f x)
  at_map [] k x a = absurd (let lt = a.0 in omega arith)
  at_map (y ∷ xs) zero x a = (omega arith, ap f a.1)
  at_map (y ∷ xs) (suc k) x a = let rest = at_map xs k x ((let lt = a.0 in omega arith), a.1) in ((let lt = rest.0 in omega arith), rest.1)

  -- what stands in the list of the images is an image of what stands there
  pub from_map : (xs : List X) (k : ℕ) (y : Y) → At (map f xs) k y → (x : X) × At xs k x × (f x ≡ y)
  from_map [] k y a = absurd (let lt = a.0 in omega arith)
  from_map (x ∷ xs) zero y a = (x, (omega arith, refl), a.1)
  from_map (x ∷ xs) (suc k) y a = let rest = from_map xs k y ((let lt = a.0 in omega arith), a.1) in (rest.0, ((let lt = rest.1.0 in omega arith), rest.1.1), rest.2)
