-- Whose each slot is, entry by entry.
use Rattle.std.proofs.Common.{◌≡◌, inl, inr, ℕ, ◌+◌, ◌<◌, Bool, true, false, cond, List, [], ◌∷◌, ◌++◌, length, take, refl, ap, sym, ◌∙◌, subst, arith, append_assoc}
use Rattle.std.specs.Prelude.{Contains, nat_eq, ◌||◌, slice_index}
use Rattle.std.proofs.lemmas.Bool.{false≢true}
use Rattle.std.proofs.lemmas.Bool.Decides.{nat_tests}
use Rattle.std.proofs.Math.Seq.{take-nil}
use Rattle.std.proofs.Math.ListN.{replicate}
use Rattle.std.proofs.lemmas.List.{append-nil, get_or-replicate, length-replicate}
use Rattle.std.proofs.lemmas.List.Elements.{Contains-push, Contains-push_cases, Contains-append_left}
use Rattle.store_key.specs.Anchor.{anchor_of}
use Rattle.rebuild_model.specs.declared.found.Found.{Found}
use Rattle.rebuild_model.specs.Keeping.{IsOwner, AreOwners}
use Rattle.rock_rebuild.proofs.Choosing.{here_or_behind, behind}
use Rattle.rock_rebuild.proofs.Lists.{is_among, parts}

is_there : (xs : List ℕ) (s : ℕ) → is_among s xs ≡ true → Contains xs s
is_there [] s among = absurd (false≢true among)
is_there (x ∷ xs) s among = elim (nat_eq x s) as (λ b. nat_eq x s ≡ b → Contains (x ∷ xs) s) [
  | true ↦ λ e. let same : x ≡ s = grind (arith, nat_tests, e) in (0, omega arith, same)
  | false ↦ λ e. behind x xs s (is_there xs s (sym (ap (λ (b : Bool). b || is_among s xs) e) ∙ among))
] refl

not_there : (xs : List ℕ) (s : ℕ) → is_among s xs ≡ false → Contains xs s → ⊥
not_there [] s lacks there = omega (arith, there.1)
not_there (x ∷ xs) s lacks there =
    let both = parts (nat_eq x s) (is_among s xs) lacks in
    elim (here_or_behind x xs s there) as (λ _. ⊥) [
      | inl same ↦ let is : nat_eq x s ≡ true = grind (arith, nat_tests, same) in false≢true (sym both.0 ∙ is)
      | inr other ↦ not_there xs s both.1 other
    ]

-- the owners of the slots, where all entries but those left have theirs
pub record OwnedBy (anchors : ℕ) (winners left : List Found) (owners : List ℕ) : Type 0 where
  pub done : List Found
  pub all : winners ≡ done ++ left
  pub owned : AreOwners anchors done owners

-- a list that was made of zeros
pub all_free : (owners before : List ℕ) (n m : ℕ) → before ≡ [] → owners ≡ take n before ++ replicate m 0 → (s : ℕ) → s < length owners → slice_index owners s ≡ 0
all_free owners before n m none made s inside =
    let is : owners ≡ replicate m 0 = made ∙ ap (λ l. take n l ++ replicate m 0) none ∙ ap (λ l. l ++ replicate m 0) (take-nil n) in
    let within : s < m = omega (arith, inside, ap length is, length-replicate {A = ℕ} m 0) in
    ap (λ l. slice_index l s) is ∙ get_or-replicate m s 0 0 within

pub none_owned : (anchors : ℕ) (winners : List Found) (owners : List ℕ) → ((s : ℕ) → s < length owners → slice_index owners s ≡ 0) → OwnedBy anchors winners winners owners
none_owned anchors winners owners none = record {
  done = [];
  all = refl;
  owned = λ s inside. inr (λ f there has. absurd (omega (arith, there.1)), none s inside);
}

pub owner_on : (anchors : ℕ) (done : List Found) (w : Found) (s old new : ℕ) (among : Bool) → is_among s w.chain ≡ among → new ≡ cond among (anchor_of w.key anchors + 1) old → IsOwner anchors done s old → IsOwner anchors (done ++ w ∷ []) s new
owner_on anchors done w s old new true is sets o = inl (w, Contains-push done w, is_there w.chain s is, sets)
owner_on anchors done w s old new false is sets (inl o) = inl (o.0, Contains-append_left done (w ∷ []) o.0 o.1, o.2, sets ∙ o.3)
owner_on anchors done w s old new false is sets (inr none) = inr (
  (λ f there has. elim (Contains-push_cases done w f there) as (λ _. ⊥) [
    | inl before ↦ none.0 f before has
    | inr same ↦ not_there w.chain s is (subst (λ g. Contains g.chain s) (sym same) has)
  ]),
  sets ∙ none.1,
)

pub one_more_owns : (anchors : ℕ) (winners left rest : List Found) (w : Found) (owners after : List ℕ) → OwnedBy anchors winners left owners → left ≡ w ∷ rest → length after ≡ length owners
    → ((s : ℕ) → s < length owners → slice_index after s ≡ cond (is_among s w.chain) (anchor_of w.key anchors + 1) (slice_index owners s)) → OwnedBy anchors winners rest after
one_more_owns anchors winners left rest w owners after o is count sets = record {
  done = o.done ++ w ∷ [];
  all = o.all ∙ ap (λ l. o.done ++ l) is ∙ sym (append_assoc o.done (w ∷ []) rest);
  owned = λ s inside. owner_on anchors o.done w s (slice_index owners s) (slice_index after s) (is_among s w.chain) refl (sets s (omega (arith, inside, count))) (o.owned s (omega (arith, inside, count)));
}

is_empty : (left : List Found) → length left ≡ 0 → left ≡ []
is_empty [] none = refl
is_empty (w ∷ left) none = absurd (omega (arith, none))

pub all_owned : (anchors : ℕ) (winners left : List Found) (owners : List ℕ) → OwnedBy anchors winners left owners → length left ≡ 0 → AreOwners anchors winners owners
all_owned anchors winners left owners o none = subst (λ ws. AreOwners anchors ws owners) (sym (o.all ∙ ap (λ l. o.done ++ l) (is_empty left none) ∙ append-nil o.done)) o.owned
