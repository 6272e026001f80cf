-- One thing is wrong with items.
use Rattle.std.proofs.Common.{◌≡◌, ℕ, ◌^◌, ◌<◌, List, [], ◌++◌, length, refl, sym, ap, subst, ◌∙◌, inl, inr, arith}
use Rattle.std.specs.List.{flat_map}
use Rattle.std.proofs.lemmas.List.{length-append}
use Rattle.swap_meta.specs.declared.fault.MetaFault.{MetaFault}
use Rattle.swap_meta.specs.declared.fault.MetaFault.TheVariants.{BadMark, BadLength, NoKey, NoUrl, Repeated}
use Rattle.swap_meta.specs.Meta.{Item, item_bytes, IsInOrder, IsRepeated, IsWrong, NextIs, Stops, ItemsFail}
use Rattle.swap_meta.proofs.Front.{same_next}
use Rattle.swap_meta.proofs.OneWalk.{not_nothing, stops_end, one_walk}

-- at the end no length is wrong
pub length_not_at_end : (items : List Item) (left : List ℕ) → Stops items left BadLength → left ≡ [] → ⊥
length_not_at_end items left (inl cut) e = cut.0 e
length_not_at_end items left (inr next) e = not_nothing next.0 next.1 (sym e ∙ next.2)

-- at the end no item comes next
pub next_not_at_end : (P : Item → Type 0) (left : List ℕ) → NextIs P left → left ≡ [] → ⊥
next_not_at_end P left next e = not_nothing next.0 next.1 (sym e ∙ next.2)

-- an item that is repeated is whole, and its value is not looked at
length_not_repeated : (items : List Item) (left : List ℕ) → length left < 2 ^ 32 → Stops items left BadLength → NextIs (IsRepeated items) left → ⊥
length_not_repeated items left fits (inl cut) next = cut.1 next.0 next.1 next.2
length_not_repeated items left fits (inr wrong) next =
    let short : length (item_bytes wrong.0 ++ wrong.1) < 2 ^ 32 = subst (λ (xs : List ℕ). length xs < 2 ^ 32) wrong.2 fits in
    let same = same_next wrong.0 next.0 wrong.1 next.1 short (sym wrong.2 ∙ next.2) in
    let wrong' : IsWrong items next.0 = subst (IsWrong items) same.0 wrong.3 in
    next.3.1 wrong'.1

-- one thing is wrong behind these items
one_stop : (items : List Item) (left : List ℕ) (f g : MetaFault) → length left < 2 ^ 32 → Stops items left f → Stops items left g → f ≡ g
one_stop items left BadMark g fits p q = absurd p
one_stop items left BadLength BadMark fits p q = absurd q
one_stop items left BadLength BadLength fits p q = refl
one_stop items left BadLength NoKey fits p q = absurd (length_not_at_end items left p q.0)
one_stop items left BadLength NoUrl fits p q = absurd (length_not_at_end items left p q.0)
one_stop items left BadLength Repeated fits p q = absurd (length_not_repeated items left fits p q)
one_stop items left NoKey BadMark fits p q = absurd q
one_stop items left NoKey BadLength fits p q = absurd (length_not_at_end items left q p.0)
one_stop items left NoKey NoKey fits p q = refl
one_stop items left NoKey NoUrl fits p q = absurd (q.1 p.1)
one_stop items left NoKey Repeated fits p q = absurd (next_not_at_end (IsRepeated items) left q p.0)
one_stop items left NoUrl BadMark fits p q = absurd q
one_stop items left NoUrl BadLength fits p q = absurd (length_not_at_end items left q p.0)
one_stop items left NoUrl NoKey fits p q = absurd (p.1 q.1)
one_stop items left NoUrl NoUrl fits p q = refl
one_stop items left NoUrl Repeated fits p q = absurd (next_not_at_end (IsRepeated items) left q p.0)
one_stop items left Repeated BadMark fits p q = absurd q
one_stop items left Repeated BadLength fits p q = absurd (length_not_repeated items left fits q p)
one_stop items left Repeated NoKey fits p q = absurd (next_not_at_end (IsRepeated items) left p q.0)
one_stop items left Repeated NoUrl fits p q = absurd (next_not_at_end (IsRepeated items) left p q.0)
one_stop items left Repeated Repeated fits p q = refl

-- what is left is no longer than the whole
pub left_fits : (items : List Item) (left inside : List ℕ) → inside ≡ flat_map item_bytes items ++ left → length inside < 2 ^ 32 → length left < 2 ^ 32
left_fits items left inside parts fits =
    let long : length inside ≡ length (flat_map item_bytes items ++ left) = ap length parts in
    omega (arith, long, length-append (flat_map item_bytes items) left)

-- one thing is wrong with the items in these bytes
pub fails_once : (inside : List ℕ) (f g : MetaFault) → length inside < 2 ^ 32 → ItemsFail inside f → ItemsFail inside g → f ≡ g
fails_once inside f g fits p q =
    let p-fits = left_fits p.items p.left inside p.parts fits in
    let q-fits = left_fits q.items q.left inside q.parts fits in
    let fits' : length (flat_map item_bytes p.items ++ p.left) < 2 ^ 32 = subst (λ (xs : List ℕ). length xs < 2 ^ 32) p.parts fits in
    let same = one_walk IsInOrder p.items q.items p.left q.left fits' (sym p.parts ∙ q.parts) p.in_order q.in_order (stops_end p.items p.left f p-fits p.stops) (stops_end q.items q.left g q-fits q.stops) in
    let q-stops : Stops p.items p.left g = subst (λ (left : List ℕ). Stops p.items left g) (sym same.1) (subst (λ (items : List Item). Stops items q.left g) (sym same.0) q.stops) in
    one_stop p.items p.left f g p-fits p.stops q-stops
