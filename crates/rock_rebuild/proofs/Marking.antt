-- Slots that are given an owner, and how many have one.
use Rattle.std.proofs.Common.{◌≡◌, ℕ, ◌+◌, ◌<◌, Bool, true, false, cond, List, [], ◌∷◌, length, get_or, refl, ap, ◌∙◌, arith, inl, inr, subst}
use Rattle.std.specs.Prelude.{Contains, nat_eq, nat_lt, ◌||◌, slice_index}
use Rattle.std.specs.List.{IsDistinct, AllByRecursion}
use Rattle.std.proofs.Math.ListN.{set, length-set}
use Rattle.std.proofs.lemmas.Bool.Decides.{nat_tests}
use Rattle.std.proofs.lemmas.List.{get_or-set_same, get_or-set_other}
use Rattle.std.proofs.lemmas.List.Sums.{sum_by-set}
use Rattle.rock_rebuild.specs.Tally.{used_in}
use Rattle.rock_rebuild.proofs.Choosing.{here_or_behind, behind, apart, together}
use Rattle.rock_rebuild.proofs.Lists.{is_among}

-- the owners where the slots of a chain are given this number
abbrev pub marked : ℕ → List ℕ → List ℕ → List ℕ
marked number [] owner = owner
marked number (s ∷ chain) owner = marked number chain (set owner s number)

pub length_marked : (number : ℕ) (chain owner : List ℕ) → length (marked number chain owner) ≡ length owner
length_marked number [] owner = refl
length_marked number (s ∷ chain) owner = length_marked number chain (set owner s number) ∙ length-set owner s number

either : (b : Bool) (n : ℕ) → cond b n n ≡ n
either true n = refl
either false n = refl

pub marked_at : (number : ℕ) (chain owner : List ℕ) (s : ℕ) → s < length owner → slice_index (marked number chain owner) s ≡ cond (is_among s chain) number (slice_index owner s)
marked_at number [] owner s inside = refl
marked_at number (x ∷ chain) owner s inside =
    let rest = marked_at number chain (set owner x number) s (omega (arith, inside, length-set owner x number)) in
    elim (nat_eq x s) as (λ b. nat_eq x s ≡ b → slice_index (marked number chain (set owner x number)) s ≡ cond (b || is_among s chain) number (slice_index owner s)) [
      | true ↦ λ e.
          let same : x ≡ s = together x s e in
          let now : slice_index (set owner x number) s ≡ number = ap (λ k. slice_index (set owner k number) s) same ∙ get_or-set_same owner s number 0 inside in
          rest ∙ ap (λ n. cond (is_among s chain) number n) now ∙ either (is_among s chain) number
      | false ↦ λ e. rest ∙ ap (λ n. cond (is_among s chain) number n) (get_or-set_other owner x s number 0 (apart x s e))
    ] refl

at_contained : (P : ℕ → Type 0) (xs : List ℕ) (y : ℕ) → AllByRecursion P xs → Contains xs y → P y
at_contained P [] y all there = absurd (omega (arith, there.1))
at_contained P (x ∷ xs) y all there = elim (here_or_behind x xs y there) as (λ _. P y) [
  | inl same ↦ subst P same all.0
  | inr other ↦ at_contained P xs y all.1 other
]

-- 1 for a slot that has an owner
abbrev one_if_owned : ℕ → ℕ
one_if_owned n = cond (nat_lt 0 n) 1 0

-- one slot more has an owner
one_more_used : (owner : List ℕ) (s number : ℕ) → 0 < number → s < length owner → slice_index owner s ≡ 0 → used_in (set owner s number) ≡ used_in owner + 1
one_more_used owner s number some inside free =
    let sums = sum_by-set one_if_owned owner s number 0 inside in
    let was : one_if_owned (get_or owner s 0) ≡ 0 = ap one_if_owned free in
    let test : nat_lt 0 number ≡ true = grind (arith, nat_tests, some) in
    let is : one_if_owned number ≡ 1 = ap (λ (b : Bool). cond {A = ℕ} b 1 0) test in
    omega (arith, sums, was, is)

-- as many more slots have an owner as a chain has, where its slots are there and had none
pub marked_count : (number : ℕ) (chain owner : List ℕ) → 0 < number → IsDistinct nat_eq chain → ((s : ℕ) → Contains chain s → (s < length owner) × (slice_index owner s ≡ 0)) → used_in (marked number chain owner) ≡ used_in owner + length chain
unfolding IsDistinct
marked_count number [] owner some once free = omega arith
marked_count number (x ∷ chain) owner some once free =
    let here = free x (0, omega arith, refl) in
    let more = one_more_used owner x number some here.0 here.1 in
    let rest = marked_count number chain (set owner x number) some once.1
    (λ s there.
    let was = free s (behind x chain s there) in
    let other : nat_eq x s ≡ false = at_contained (λ y. nat_eq x y ≡ false) chain s once.0 there in
    (omega (arith, was.0, length-set owner x number), get_or-set_other owner x s number 0 (apart x s other) ∙ was.1))
    in
    omega (arith, more, rest)
