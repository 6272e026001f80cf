-- The values of one type, and what an item does to them.
use Rattle.std.proofs.Common.{◌≡◌, ◌≢◌, ℕ, ◌==◌, Bool, true, cond, List, [], ◌∷◌, ◌++◌, map, refl, ap, subst, ◌∙◌, inl, inr, eq-eqb}
use Rattle.std.specs.Prelude.{filter}
use Rattle.std.proofs.lemmas.List.{map-append}
use Rattle.std.proofs.lemmas.List.Elements.{filter-append}
use Rattle.swap_meta.specs.Meta.{Item, values_of, AtMostOne, IsKey, IsUrl, IsInOrder, IsRepeated, IsWrong}

-- the values of items, and then of others
values_of-append : (kind : ℕ) (xs ys : List Item) → values_of kind (xs ++ ys) ≡ values_of kind xs ++ values_of kind ys
values_of-append kind xs ys =
    let is_kind : Item → Bool = λ i. i.kind == kind in
    let value : Item → List ℕ = λ i. i.value in
    ap (map value) (filter-append is_kind xs ys) ∙ map-append value (filter is_kind xs) (filter is_kind ys)

-- the values of the type of an item are its own, and those of the items behind it
values_of-own : (kind : ℕ) (i : Item) (ys : List Item) → i.kind ≡ kind → values_of kind (i ∷ ys) ≡ i.value ∷ values_of kind ys
values_of-own kind i ys e =
    let is_kind : Item → Bool = λ i. i.kind == kind in
    let same : (i.kind == kind) ≡ true = eq-eqb i.kind kind e in
    ap (λ (b : Bool). map (λ (j : Item). j.value) (cond b (i ∷ filter is_kind ys) (filter is_kind ys))) same

-- the values where an item of the type stands among the items
values_of-at : (kind : ℕ) (xs : List Item) (i : Item) (ys : List Item) → i.kind ≡ kind → values_of kind (xs ++ i ∷ ys) ≡ values_of kind xs ++ i.value ∷ values_of kind ys
values_of-at kind xs i ys e = values_of-append kind xs (i ∷ ys) ∙ ap (λ (vs : List (List ℕ)). values_of kind xs ++ vs) (values_of-own kind i ys e)

-- the first of the values is right
first_right : (P : List ℕ → Type 0) (value : List ℕ) (values : List (List ℕ)) → AtMostOne P (value ∷ values) → P value
first_right P value [] h = h
first_right P value (another ∷ values) h = absurd h

-- no value stands behind another
no_second : (P : List ℕ → Type 0) (before : List (List ℕ)) (value : List ℕ) (behind : List (List ℕ)) → before ≢ [] → AtMostOne P (before ++ value ∷ behind) → ⊥
no_second P [] value behind some h = some refl
no_second P (first ∷ []) value behind some h = h
no_second P (first ∷ second ∷ before) value behind some h = h

-- the first item of its type has a right value
right_at : (P : List ℕ → Type 0) (kind : ℕ) (xs : List Item) (i : Item) (ys : List Item) → i.kind ≡ kind → values_of kind xs ≡ [] → AtMostOne P (values_of kind (xs ++ i ∷ ys)) → P i.value
right_at P kind xs i ys e none h =
    let at : values_of kind (xs ++ i ∷ ys) ≡ i.value ∷ values_of kind ys = values_of-at kind xs i ys e ∙ ap (λ (vs : List (List ℕ)). vs ++ i.value ∷ values_of kind ys) none in
    first_right P i.value (values_of kind ys) (subst (AtMostOne P) at h)

-- no second item of a type goes on items in order
repeated_at : (P : List ℕ → Type 0) (kind : ℕ) (xs : List Item) (i : Item) (ys : List Item) → i.kind ≡ kind → values_of kind xs ≢ [] → AtMostOne P (values_of kind (xs ++ i ∷ ys)) → ⊥
repeated_at P kind xs i ys e some h = no_second P (values_of kind xs) i.value (values_of kind ys) some (subst (AtMostOne P) (values_of-at kind xs i ys e) h)

-- items with a wrong one among them are not in order
pub wrong_next : (xs : List Item) (i : Item) (ys : List Item) → IsWrong xs i → IsInOrder (xs ++ i ∷ ys) → ⊥
wrong_next xs i ys (inl key, none) in_order = key.1 (right_at IsKey 3 xs i ys key.0 (subst (λ (k : ℕ). values_of k xs ≡ []) key.0 none) in_order.keys)
wrong_next xs i ys (inr url, none) in_order = url.1 (right_at IsUrl 4 xs i ys url.0 (subst (λ (k : ℕ). values_of k xs ≡ []) url.0 none) in_order.urls)

-- nor are items with a repeated one among them
pub repeated_next : (xs : List Item) (i : Item) (ys : List Item) → IsRepeated xs i → IsInOrder (xs ++ i ∷ ys) → ⊥
repeated_next xs i ys (inl key, some) in_order = repeated_at IsKey 3 xs i ys key (subst (λ (k : ℕ). values_of k xs ≢ []) key some) in_order.keys
repeated_next xs i ys (inr url, some) in_order = repeated_at IsUrl 4 xs i ys url (subst (λ (k : ℕ). values_of k xs ≢ []) url some) in_order.urls
