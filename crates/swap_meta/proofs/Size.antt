-- How long metadata is at least.
use Rattle.std.proofs.Common.{◌≡◌, ℕ, suc, ◌+◌, ◌≤◌, ◌==◌, Bool, true, false, cond, List, [], ◌∷◌, ◌++◌, length, map, refl, ap, arith}
use Rattle.std.specs.Prelude.{filter}
use Rattle.std.specs.List.{flat_map}
use Rattle.std.proofs.lemmas.Bool.{eqb-true}
use Rattle.std.proofs.lemmas.List.{length-append}
use Rattle.swap_meta.specs.Meta.{Item, item_bytes, values_of, Spells}
use Rattle.swap_meta.proofs.Walk.{length-item_bytes}

-- how many bytes the items with these values take
abbrev weight : List (List ℕ) → ℕ
weight [] = 0
weight (value ∷ values) = 5 + length value + weight values

-- the values, and that of the item in front where it is of the type
abbrev values_if : Bool → Item → List (List ℕ) → List (List ℕ)
values_if b i values = cond b (i.value ∷ values) values

-- the values with one more item in front
values_of-cons : (kind : ℕ) (i : Item) (items : List Item) → values_of kind (i ∷ items) ≡ values_if (i.kind == kind) i (values_of kind items)
values_of-cons kind i items =
    let is_kind : Item → Bool = λ j. j.kind == kind in
    let value : Item → List ℕ = λ j. j.value in
    elim (i.kind == kind) as (λ b. map value (cond b (i ∷ filter is_kind items) (filter is_kind items)) ≡ cond b (i.value ∷ map value (filter is_kind items)) (map value (filter is_kind items))) [ true ↦ refl | false ↦ refl ]

-- an item is of one type at most
one_type : (i : Item) (b c : Bool) (threes fours : List (List ℕ)) → (i.kind == 3) ≡ b → (i.kind == 4) ≡ c → weight (values_if b i threes) + weight (values_if c i fours) ≤ 5 + length i.value + (weight threes + weight fours)
one_type i true true threes fours three four =
    let is_three : i.kind ≡ 3 = eqb-true i.kind 3 three in
    let is_four : i.kind ≡ 4 = eqb-true i.kind 4 four in
    omega arith
one_type i true false threes fours three four = omega arith
one_type i false true threes fours three four = omega arith
one_type i false false threes fours three four = omega arith

-- items take at least the bytes of those of the two types
items_weigh : (items : List Item) → weight (values_of 3 items) + weight (values_of 4 items) ≤ length (flat_map item_bytes items)
items_weigh [] = omega arith
items_weigh (i ∷ items) =
    let first = one_type i (i.kind == 3) (i.kind == 4) (values_of 3 items) (values_of 4 items) refl refl in
    let threes : weight (values_of 3 (i ∷ items)) ≡ weight (values_if (i.kind == 3) i (values_of 3 items)) = ap weight (values_of-cons 3 i items) in
    let fours : weight (values_of 4 (i ∷ items)) ≡ weight (values_if (i.kind == 4) i (values_of 4 items)) = ap weight (values_of-cons 4 i items) in
    let rest = items_weigh items in
    let long = length-item_bytes i (flat_map item_bytes items) in
    omega (arith, first, threes, fours, rest, long)

-- metadata has a mark and a length, an item with a key of 16 bytes, and one with the URL and a zero byte
pub spelled_size : (bytes key url : List ℕ) (n : ℕ) → Spells bytes key url n → length url + 32 ≤ n
spelled_size bytes key url n spells =
    let threes : weight (values_of 3 spells.items) ≡ 5 + length key + 0 = ap weight spells.one_key in
    let fours : weight (values_of 4 spells.items) ≡ 5 + length (url ++ 0 ∷ []) + 0 = ap weight spells.one_url in
    let long : length bytes ≡ suc (suc (suc (suc (suc (length (flat_map item_bytes spells.items)))))) = ap length spells.spelled in
    omega (arith, threes, fours, long, items_weigh spells.items, length-append url (0 ∷ []), spells.sixteen, spells.size)
