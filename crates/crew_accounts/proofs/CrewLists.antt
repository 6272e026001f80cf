-- Lists, place by place.
use Rattle.std.proofs.Common.{Contains, List, [], ap, arith, length, map, refl, subst, suc, sym, zero, ◌∙◌, ◌∷◌, ◌≡◌, ℕ}
use Rattle.std.proofs.lemmas.List.Elements.{Contains-append_right}
use mathlib.Core.Option.{some, some-injective, some-ne-none}
use lib.ListN.{get_elem?}
use Rattle.core_model.proofs.Lists.{at_index, at_length, at_or}

module _ {A : Type 0} where
  -- what stands at a place is in the list
  pub there : (xs : List A) (k : ℕ) (x : A) → get_elem? xs k ≡ some x → Contains xs x
  there xs k x e = (k, at_length xs k x e, at_or xs k x x e)

  -- the first item, and one behind it
  pub first : (x : A) (xs : List A) → Contains (x ∷ xs) x
  first x xs = (0, (omega arith), refl)

  pub behind : (y : A) (xs : List A) (x : A) → Contains xs x → Contains (y ∷ xs) x
  behind y xs x h = Contains-append_right (y ∷ []) xs x h

  -- and what is in the list stands at a place
  pub place_of : (xs : List A) (x : A) → (h : Contains xs x) → get_elem? xs h.0 ≡ some x
  place_of xs x h = at_index xs h.0 x x h.1 h.2

module _ {A B : Type 0} where
  -- what stands in a list of images is the image of what stands in the list
  pub record IsImage (f : A → B) (xs : List A) (k : ℕ) (y : B) : Type 0 where
    pub item : A
    pub at : get_elem? xs k ≡ some item
    pub is : f item ≡ y

  pub image : (f : A → B) (xs : List A) (k : ℕ) (y : B) → get_elem? (map f xs) k ≡ some y → IsImage f xs k y
  image f [] k y e = absurd (some-ne-none y (sym e))
  image f (x ∷ xs) zero y e = record { item = x; at = refl; is = some-injective (f x) y e }
  image f (x ∷ xs) (suc k) y e = let h = image f xs k y e in record { item = h.item; at = h.at; is = h.is }

  pub image_at : (f : A → B) (xs : List A) (k : ℕ) (x : A) → get_elem? xs k ≡ some x → get_elem? (map f xs) k ≡ some (f x)
  image_at f [] k x e = absurd (some-ne-none x (sym e))
  image_at f (x ∷ xs) zero y e = ap (λ z. some (f z)) (some-injective x y e)
  image_at f (x ∷ xs) (suc k) y e = image_at f xs k y e

  -- as many
  pub as_many : (f : A → B) (xs : List A) → length (map f xs) ≡ length xs
  as_many f [] = refl
  as_many f (x ∷ xs) = ap suc (as_many f xs)

  -- an item of the list to which another one belongs, at the place k
  pub record Belongs (P : ℕ → A → B → Type 0) (xs : List A) (k : ℕ) (y : B) : Type 0 where
    pub item : A
    pub at : get_elem? xs k ≡ some item
    pub so : P k item y

  -- another list, of which each item belongs to the one at its place
  pub record Beside (P : ℕ → A → B → Type 0) (xs : List A) : Type 0 where
    pub items : List B
    pub count : length items ≡ length xs
    pub each : (k : ℕ) (y : B) → get_elem? items k ≡ some y → Belongs P xs k y

  first_then : (P : ℕ → A → B → Type 0) (x : A) (xs : List A) (y : B) → P zero x y → (rest : Beside (λ k. P (suc k)) xs) → (k : ℕ) (z : B) → get_elem? (y ∷ rest.items) k ≡ some z → Belongs P (x ∷ xs) k z
  first_then P x xs y p rest zero z e = record { item = x; at = refl; so = subst (λ w. P zero x w) (some-injective y z e) p }
  first_then P x xs y p rest (suc k) z e = let h = rest.each k z e in record { item = h.item; at = h.at; so = h.so }

  -- there is one where to each item one belongs
  pub beside : (P : ℕ → A → B → Type 0) (xs : List A) → ((k : ℕ) (x : A) → get_elem? xs k ≡ some x → (y : B) × P k x y) → Beside P xs
  beside P [] h = record { items = []; count = refl; each = λ k y e. absurd (some-ne-none y (sym e)) }
  beside P (x ∷ xs) h =
      let first = h zero x refl in
      let rest = beside (λ k. P (suc k)) xs (λ k y e. h (suc k) y e) in
      record { items = first.0 ∷ rest.items; count = ap suc rest.count; each = first_then P x xs first.0 first.1 rest }

  pub each_of : (P : ℕ → A → B → Type 0) (xs : List A) (l : Beside P xs) (k : ℕ) (x : A) (y : B) → get_elem? xs k ≡ some x → get_elem? l.items k ≡ some y → P k x y
  each_of P xs l k x y e f = let h = l.each k y f in subst (λ z. P k z y) (some-injective h.item x (sym h.at ∙ e)) h.so
