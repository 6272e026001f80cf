-- How many items of each kind lists of them have, added up.
use Rattle.std.proofs.Common.{Bool, List, [], ap, arith, cond, false, refl, true, ◌+◌, ◌++◌, ◌≡◌, ◌∙◌, ◌∷◌, ℕ}
use Rattle.core_model.specs.declared.view.Item.{Item}
use Rattle.core_model.specs.declared.view.Kind.{Kind}
use Rattle.core_model.specs.declared.view.View.{View}
use Rattle.slice_chain.specs.Counts.{AddsSteps, many, of_kinds, slots_freed}

pub of_kinds-append : (asked : Kind → Bool) (xs ys : List Item) → of_kinds asked (xs ++ ys) ≡ of_kinds asked xs + of_kinds asked ys
of_kinds-append asked [] ys = omega arith
of_kinds-append asked (x ∷ xs) ys = let e = of_kinds-append asked xs ys in omega arith

pub many_more : (asked : Kind → Bool) (kind : Kind) (n : ℕ) → many asked kind (n + 1) ≡ many asked kind 1 + many asked kind n
many_more asked kind n = by_bool (asked kind)
  where
    by_bool : (b : Bool) → cond b (n + 1) 0 ≡ cond b 1 0 + cond b n 0
    by_bool true = omega arith
    by_bool false = omega arith

pub many_none : (asked : Kind → Bool) (kind : Kind) → many asked kind 0 ≡ 0
many_none asked kind = by_bool (asked kind)
  where
    by_bool : (b : Bool) → ◌≡◌ {A = ℕ} (cond b 0 0) 0
    by_bool true = refl
    by_bool false = refl

pub slots_more : (asked : Kind → Bool) (n : ℕ) → slots_freed asked (n + 1) ≡ slots_freed asked 1 + slots_freed asked n
slots_more asked n = let a = many_more asked Kind.Followed n in let b = many_more asked Kind.Linked n in let c = many_more asked Kind.Disowned n in omega arith

pub no_slots : (asked : Kind → Bool) → slots_freed asked 0 ≡ 0
no_slots asked = let a = many_none asked Kind.Followed in let b = many_none asked Kind.Linked in let c = many_none asked Kind.Disowned in omega arith

-- items in front of a trail
pub adds_items : {X : Type 0} (v w : View X) (items : List Item) (number : (Kind → Bool) → ℕ) → w.trail ≡ items ++ v.trail → ((asked : Kind → Bool) → of_kinds asked items ≡ number asked) → AddsSteps v w number
adds_items v w items number trail counts asked = let e = ap (of_kinds asked) trail ∙ of_kinds-append asked items v.trail in let c = counts asked in omega arith

-- an item of a kind that is not asked for
pub first_not : (asked : Kind → Bool) (x : Item) (xs : List Item) (n : ℕ) → asked x.kind ≡ false → of_kinds asked xs ≡ n → of_kinds asked (x ∷ xs) ≡ n
first_not asked x xs n other e = let z : ◌≡◌ {A = ℕ} (cond (asked x.kind) 1 0) 0 = ap (λ (b : Bool). cond {A = ℕ} b 1 0) other in omega arith

-- one slot more was freed
pub one_freed : (asked : Kind → Bool) (xs ys : List Item) (n total : ℕ) → of_kinds asked xs ≡ slots_freed asked 1 → of_kinds asked ys + slots_freed asked (n + 1) ≡ total → of_kinds asked (xs ++ ys) + slots_freed asked n ≡ total
one_freed asked xs ys n total one rest = let c = of_kinds-append asked xs ys in let m = slots_more asked n in omega arith

-- one anchor more was looked at
pub one_looked : (asked : Kind → Bool) (xs ys : List Item) (n : ℕ) → of_kinds asked xs ≡ many asked Kind.Looked 1 → of_kinds asked ys ≡ many asked Kind.Looked n → of_kinds asked (xs ++ ys) ≡ many asked Kind.Looked (n + 1)
one_looked asked xs ys n one rest = let c = of_kinds-append asked xs ys in let m = many_more asked Kind.Looked n in omega arith

-- an entry was evicted, behind looks at anchors
pub one_evicted : (asked : Kind → Bool) (ks fs ts : List Item) (n steps : ℕ)
    → of_kinds asked ks ≡ many asked Kind.Loaded 1 + many asked Kind.Followed 1 + many asked Kind.Linked 1 + slots_freed asked n + many asked Kind.Raised 1 → of_kinds asked fs ≡ many asked Kind.Looked (steps + 1)
    → of_kinds asked (ks ++ (fs ++ ts)) ≡ of_kinds asked ts
    + (many asked Kind.Looked (steps + 1) + many asked Kind.Loaded 1 + many asked Kind.Followed (n + 1) + many asked Kind.Linked (n + 1) + many asked Kind.Disowned n + many asked Kind.Raised 1)
one_evicted asked ks fs ts n steps kept looked = let a = of_kinds-append asked ks (fs ++ ts) in let b = of_kinds-append asked fs ts in
    let f = many_more asked Kind.Followed n in let l = many_more asked Kind.Linked n in omega arith
