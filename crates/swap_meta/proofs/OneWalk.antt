-- Bytes are items in order, and a rest at which these end, in one way.
use Rattle.std.proofs.Common.{◌≡◌, ℕ, ◌^◌, ◌<◌, List, [], ◌∷◌, ◌++◌, length, refl, sym, ap, subst, ◌∙◌, append_assoc, inl, inr, arith}
use Rattle.std.specs.List.{flat_map}
use Rattle.swap_meta.specs.declared.fault.MetaFault.{MetaFault}
use Rattle.swap_meta.specs.declared.fault.MetaFault.TheVariants.{BadMark, BadLength, NoKey, NoUrl, Repeated}
use Rattle.swap_meta.proofs.Walk.{length-item_bytes}
use Rattle.swap_meta.specs.Meta.{Item, item_bytes, IsInOrder, IsRepeated, IsWrong, NextIs, Stops}
use Rattle.swap_meta.proofs.Front.{same_next}
use Rattle.swap_meta.proofs.Values.{wrong_next, repeated_next}

-- no item that may come behind `xs` stands in front of what is left; `Q` says which items may be
abbrev pub Ends : (List Item → Type 0) → List Item → List ℕ → Type 0
Ends Q xs left = (i : Item) (more : List ℕ) (ys : List Item) → left ≡ item_bytes i ++ more → Q (xs ++ i ∷ ys) → ⊥

-- an item takes bytes
pub not_nothing : (i : Item) (more : List ℕ) → [] ≡ item_bytes i ++ more → ⊥
not_nothing i more e = absurd cc

-- items end where nothing is left
pub nothing_ends : (Q : List Item → Type 0) (xs : List Item) (left : List ℕ) → left ≡ [] → Ends Q xs left
nothing_ends Q xs left e i more ys next q = not_nothing i more (sym e ∙ next)

-- items end before one that may not come behind them
next_ends : (P : Item → Type 0) (xs : List Item) (left : List ℕ) → length left < 2 ^ 32 → ((i : Item) (ys : List Item) → P i → IsInOrder (xs ++ i ∷ ys) → ⊥) → NextIs P left → Ends IsInOrder xs left
next_ends P xs left fits never (j, rest, at, holds) i more ys next in_order =
    let same : item_bytes j ++ rest ≡ item_bytes i ++ more = sym at ∙ next in
    let short : length (item_bytes j ++ rest) < 2 ^ 32 = subst (λ (xs : List ℕ). length xs < 2 ^ 32) at fits in
    never i ys (subst P (same_next j i rest more short same).0 holds) in_order

-- items in order end where something is wrong
pub stops_end : (xs : List Item) (left : List ℕ) (fault : MetaFault) → length left < 2 ^ 32 → Stops xs left fault → Ends IsInOrder xs left
stops_end xs left BadMark fits stops = absurd stops
stops_end xs left BadLength fits (inl cut) = λ i more ys next in_order. cut.1 i more next
stops_end xs left BadLength fits (inr wrong) = next_ends (IsWrong xs) xs left fits (wrong_next xs) wrong
stops_end xs left NoKey fits stops = nothing_ends IsInOrder xs left stops.0
stops_end xs left NoUrl fits stops = nothing_ends IsInOrder xs left stops.0
stops_end xs left Repeated fits stops = next_ends (IsRepeated xs) xs left fits (repeated_next xs) stops

-- bytes are items up to such an end in one way
pub one_walk : (Q : List Item → Type 0) (xs ys : List Item) (s t : List ℕ) → length (flat_map item_bytes xs ++ s) < 2 ^ 32 → flat_map item_bytes xs ++ s ≡ flat_map item_bytes ys ++ t → Q xs → Q ys → Ends Q xs s → Ends Q ys t → (xs ≡ ys) × (s ≡ t)
one_walk Q [] [] s t fits e q-xs q-ys s-ends t-ends = (refl, e)
one_walk Q [] (y ∷ ys) s t fits e q-xs q-ys s-ends t-ends =
    absurd (s-ends y (flat_map item_bytes ys ++ t) ys (e ∙ append_assoc (item_bytes y) (flat_map item_bytes ys) t) q-ys)
one_walk Q (x ∷ xs) [] s t fits e q-xs q-ys s-ends t-ends =
    absurd (t-ends x (flat_map item_bytes xs ++ s) xs (sym e ∙ append_assoc (item_bytes x) (flat_map item_bytes xs) s) q-xs)
one_walk Q (x ∷ xs) (y ∷ ys) s t fits e q-xs q-ys s-ends t-ends =
    let x-parts : flat_map item_bytes (x ∷ xs) ++ s ≡ item_bytes x ++ (flat_map item_bytes xs ++ s) = append_assoc (item_bytes x) (flat_map item_bytes xs) s in
    let y-parts : flat_map item_bytes (y ∷ ys) ++ t ≡ item_bytes y ++ (flat_map item_bytes ys ++ t) = append_assoc (item_bytes y) (flat_map item_bytes ys) t in
    let x-fits : length (item_bytes x ++ (flat_map item_bytes xs ++ s)) < 2 ^ 32 = subst (λ (bytes : List ℕ). length bytes < 2 ^ 32) x-parts fits in
    let first = same_next x y (flat_map item_bytes xs ++ s) (flat_map item_bytes ys ++ t) x-fits (sym x-parts ∙ e ∙ y-parts) in
    let rest-fits : length (flat_map item_bytes xs ++ s) < 2 ^ 32 = omega (arith, x-fits, length-item_bytes x (flat_map item_bytes xs ++ s)) in
    let q-ys' : Q (x ∷ ys) = subst (λ (z : Item). Q (z ∷ ys)) (sym first.0) q-ys in
    let t-ends' : Ends (λ zs. Q (x ∷ zs)) ys t = subst (λ (z : Item). Ends (λ zs. Q (z ∷ zs)) ys t) (sym first.0) t-ends in
    let others = one_walk (λ zs. Q (x ∷ zs)) xs ys s t rest-fits first.1 q-xs q-ys' s-ends t-ends' in
    (ap (λ (z : Item). z ∷ xs) first.0 ∙ ap (λ (zs : List Item). y ∷ zs) others.0, others.1)
