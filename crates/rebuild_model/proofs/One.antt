-- A file has one rebuild.
use Rattle.std.proofs.Common.{◌≡◌, ◌⊎◌, inl, inr, ℕ, zero, suc, ◌+◌, ◌<◌, ◌≤◌, List, [], ◌∷◌, length, map, get_or, refl, ap, sym, ◌∙◌, subst, arith}
use Rattle.std.specs.Prelude.{Contains}
use Rattle.std.specs.List.Sorted.{IsStrictlyIncreasing}
use Rattle.std.proofs.lemmas.Bool.{cases_lt}
use Rattle.std.proofs.lemmas.List.{ext_get_or, get_or-map, get_or_default, length-map}
use Rattle.std.proofs.lemmas.List.Elements.{Contains-append_right}
use Rattle.std.proofs.lemmas.List.Kept.{AllPairs-from_increasing}
use Rattle.std.proofs.lemmas.Map.Made.{Contains-tail}
use Rattle.store_key.specs.Anchor.{anchor_of}
use Rattle.rebuild_model.specs.Image.{IsGreatest}
use Rattle.rebuild_model.specs.Entry.{Entry, found_of}
use Rattle.rebuild_model.specs.Rebuilt.{IsWinner, IsRebuilt}
use Rattle.rebuild_model.specs.declared.found.Found.{Found}
use Rattle.rebuild_model.specs.declared.rebuilt.Rebuilt.{Rebuilt}

same_or_not : (x s : ℕ) → (x ≡ s) ⊎ (x ≡ s → ⊥)
same_or_not x s = elim (cases_lt x s) as (λ _. (x ≡ s) ⊎ (x ≡ s → ⊥)) [
  | inl less ↦ inr (λ same. omega (arith, less, same))
  | inr more ↦ elim (cases_lt s x) as (λ _. (x ≡ s) ⊎ (x ≡ s → ⊥)) [ inl above ↦ inr (λ same. omega (arith, above, same)) | inr below ↦ inl (omega (arith, more, below)) ]
]

in_or_not : (xs : List ℕ) (s : ℕ) → Contains xs s ⊎ (Contains xs s → ⊥)
in_or_not [] s = inr (λ there. omega (arith, there.1))
in_or_not (x ∷ xs) s = elim (same_or_not x s) as (λ _. Contains (x ∷ xs) s ⊎ (Contains (x ∷ xs) s → ⊥)) [
  | inl same ↦ inl (0, omega arith, same)
  | inr other ↦ elim (in_or_not xs s) as (λ _. Contains (x ∷ xs) s ⊎ (Contains (x ∷ xs) s → ⊥)) [
    | inl there ↦ inl (Contains-append_right (x ∷ []) xs s there)
    | inr lacks ↦ inr (λ there. lacks (Contains-tail x xs s other there))
  ]
]

-- one of these entries has the slot, or none
abbrev IsSettled : List Entry → ℕ → Type 0
IsSettled entries s = ((e : Entry) × Contains entries e × Contains e.chain s) ⊎ ((e : Entry) → Contains entries e → Contains e.chain s → ⊥)

owned_or_not : (entries : List Entry) (s : ℕ) → IsSettled entries s
owned_or_not [] s = inr (λ e there has. omega (arith, there.1))
owned_or_not (x ∷ rest) s = elim (in_or_not x.chain s) as (λ _. IsSettled (x ∷ rest) s) [
  | inl has ↦ inl (x, (0, omega arith, refl), has)
  | inr lacks ↦ elim (owned_or_not rest s) as (λ _. IsSettled (x ∷ rest) s) [
    | inl o ↦ inl (o.0, Contains-append_right (x ∷ []) rest o.0 o.1, o.2)
    | inr none ↦ inr (λ e there has. none e (Contains-tail x rest e (λ same. lacks (subst (λ g. Contains g.chain s) (sym same) has)) there) has)
  ]
]

-- the first is below all behind it
below_rest : (f : Entry → ℕ) (x : Entry) (xs : List Entry) (e : Entry) → IsStrictlyIncreasing (map f (x ∷ xs)) → Contains xs e → f x < f e
below_rest f x xs e up there =
    let inside : suc there.0 < length (map f (x ∷ xs)) = omega (arith, there.1, length-map (x ∷ xs) f) in
    let positive : 0 < suc there.0 = omega arith in
    subst (λ n. f x < n) (get_or-map f xs there.0 e (f e) there.1 ∙ ap f there.2) (AllPairs-from_increasing (map f (x ∷ xs)) up 0 (suc there.0) (f e) positive inside)

rest_up : (x : ℕ) (xs : List ℕ) → IsStrictlyIncreasing (x ∷ xs) → IsStrictlyIncreasing xs
rest_up x xs up k within =
    let next : suc k + 1 ≡ suc (k + 1) = omega arith in
    subst (λ n. get_or xs k 0 < get_or (x ∷ xs) n 0) next (up (suc k) (omega (arith, within)))

split_at : (k : ℕ) (y : Entry) (ys : List Entry) (x : Entry) → k < length (y ∷ ys) → get_or (y ∷ ys) k x ≡ x → (y ≡ x) ⊎ Contains ys x
split_at zero y ys x within is = inl is
split_at (suc k) y ys x within is = inr (k, omega (arith, within), is)

heads_same : (f : Entry → ℕ) (x y : Entry) (xs ys : List Entry) → IsStrictlyIncreasing (map f (x ∷ xs)) → IsStrictlyIncreasing (map f (y ∷ ys)) → Contains (y ∷ ys) x → Contains (x ∷ xs) y → x ≡ y
heads_same f x y xs ys up_x up_y x_there y_there = elim (split_at x_there.0 y ys x x_there.1 x_there.2) as (λ _. x ≡ y) [
  | inl same ↦ sym same
  | inr x_behind ↦ elim (split_at y_there.0 x xs y y_there.1 y_there.2) as (λ _. x ≡ y) [
    | inl same ↦ same
    | inr y_behind ↦ absurd (omega (arith, below_rest f y ys x up_y x_behind, below_rest f x xs y up_x y_behind))
  ]
]

joined : {x y : Entry} {xs ys : List Entry} → x ≡ y → xs ≡ ys → (x ∷ xs) ≡ (y ∷ ys)
joined p q = cc

-- entries in order of a number that have the same members are the same
pub same_entries : (f : Entry → ℕ) (xs ys : List Entry) → IsStrictlyIncreasing (map f xs) → IsStrictlyIncreasing (map f ys) → ((e : Entry) → Contains xs e → Contains ys e)
    → ((e : Entry) → Contains ys e → Contains xs e) → xs ≡ ys
same_entries f [] [] up_x up_y to from = refl
same_entries f [] (y ∷ ys) up_x up_y to from = let there = from y (0, omega arith, refl) in absurd (omega (arith, there.1))
same_entries f (x ∷ xs) [] up_x up_y to from = let there = to x (0, omega arith, refl) in absurd (omega (arith, there.1))
same_entries f (x ∷ xs) (y ∷ ys) up_x up_y to from =
    let heads : x ≡ y = heads_same f x y xs ys up_x up_y (to x (0, omega arith, refl)) (from y (0, omega arith, refl)) in
    joined heads (same_entries f xs ys (rest_up (f x) (map f xs) up_x) (rest_up (f y) (map f ys) up_y)
    (λ e there. Contains-tail y ys e (λ same. omega (arith, below_rest f x xs e up_x there, ap f (heads ∙ same))) (to e (Contains-append_right (x ∷ []) xs e there)))
    (λ e there. Contains-tail x xs e (λ same. omega (arith, below_rest f y ys e up_y there, ap f (sym heads ∙ same))) (from e (Contains-append_right (y ∷ []) ys e there))))

abbrev pub OneWinner : Type 0
OneWinner = (slot : ℕ) (images : List (List ℕ)) (anchors anchor : ℕ) (e f : Entry) → IsWinner slot images anchors anchor e → IsWinner slot images anchors anchor f → e ≡ f

-- an entry that one rebuild keeps the other keeps too
kept_by_both : OneWinner → (slot : ℕ) (images : List (List ℕ)) (anchors : ℕ) (a b : Rebuilt) (p : IsRebuilt slot images anchors a) (q : IsRebuilt slot images anchors b) (e : Entry) → Contains p.entries e → Contains q.entries e
kept_by_both one slot images anchors a b p q e there =
    let won : IsWinner slot images anchors (anchor_of e.key anchors) e = p.won e there in
    let at = q.every e won.complete in
    let k : ℕ = at.0 in
    let inside : k < length q.entries = omega (arith, at.1, length-map q.entries (λ f. anchor_of f.key anchors)) in
    let g : Entry = get_or q.entries k e in
    let g_there : Contains q.entries g = (k, inside, get_or_default q.entries k g e inside) in
    let anchor : anchor_of g.key anchors ≡ anchor_of e.key anchors = sym (get_or-map (λ f. anchor_of f.key anchors) q.entries k e (anchor_of e.key anchors) inside) ∙ at.2 in
    let same : e ≡ g = one slot images anchors (anchor_of e.key anchors) e g won (subst (λ x. IsWinner slot images anchors x g) anchor (q.won g g_there)) in
    subst (Contains q.entries) (sym same) g_there

at_most : (slot : ℕ) (images : List (List ℕ)) (a b : ℕ) → IsGreatest slot images a → IsGreatest slot images b → a ≤ b
at_most slot images a b g h = elim (cases_lt 0 a) as (λ _. a ≤ b) [
  | inl some ↦ let t = g.there some in omega (arith, t.2, h.above t.0 t.1)
  | inr none ↦ omega (arith, none)
]

abbrev made : List Found → List ℕ → ℕ → Rebuilt
made winners owner greatest = record { winners = winners; owner = owner; greatest = greatest }

same_parts : {w w' : List Found} {o o' : List ℕ} {g g' : ℕ} → w ≡ w' → o ≡ o' → g ≡ g' → made w o g ≡ made w' o' g'
same_parts p q r = cc

pub one_rebuild : OneWinner → (slot : ℕ) (images : List (List ℕ)) (anchors : ℕ) (a b : Rebuilt) → IsRebuilt slot images anchors a → IsRebuilt slot images anchors b → a ≡ b
one_rebuild one slot images anchors a b p q =
    let entries : p.entries ≡ q.entries = same_entries (λ e. anchor_of e.key anchors) p.entries q.entries p.ordered q.ordered (kept_by_both one slot images anchors a b p q) (kept_by_both one slot images anchors b a q p) in
    same_parts
    (p.told ∙ ap (map found_of) entries ∙ sym q.told)
    (ext_get_or 0 a.owner b.owner (p.one_a_slot ∙ sym q.one_a_slot) (λ s within. elim (owned_or_not p.entries s) as (λ _. get_or a.owner s 0 ≡ get_or b.owner s 0) [
      | inl o ↦ p.owned o.0 s o.1 o.2 ∙ sym (q.owned o.0 s (subst (λ l. Contains l o.0) entries o.1) o.2)
      | inr none ↦ p.free s none ∙ sym (q.free s (λ e there has. none e (subst (λ l. Contains l e) (sym entries) there) has))
    ]))
    (omega (arith, at_most slot images a.greatest b.greatest p.greatest q.greatest, at_most slot images b.greatest a.greatest q.greatest p.greatest))
