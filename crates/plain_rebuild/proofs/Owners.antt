-- The entry of a slot, sought from the front, and the owners of all slots.
use Rattle.std.proofs.Common.{◌≡◌, inl, inr, ℕ, true, false, List, sym, subst, ◌∙◌, [], ◌∷◌, ◌++◌, length, refl, arith}
use Rattle.std.specs.Prelude.{Contains, nat_eq, slice_index}
use Rattle.std.specs.List.{list_any}
use Rattle.std.proofs.lemmas.Bool.{cases_lt, false≢true}
use Rattle.std.proofs.lemmas.Bool.Decides.{nat_tests}
use Rattle.std.proofs.lemmas.List.{length_push, get_or_append_left, get_or_push}
use Rattle.std.proofs.lemmas.List.Elements.{Contains-append_right}
use Rattle.std.proofs.lemmas.Map.Made.{Contains-tail}
use Rattle.plain_rebuild.proofs.Walking.{parts}
use Rattle.rebuild_model.specs.Keeping.{IsOwner, AreOwners}
use Rattle.rebuild_model.specs.declared.found.Found.{Found}

-- the entries behind `left` have not the slot
pub record SoughtIn (winners left : List Found) (s : ℕ) : Type 0 where
  pub part : (f : Found) → Contains left f → Contains winners f
  pub only : (f : Found) → Contains winners f → Contains f.chain s → Contains left f

not_in : (xs : List ℕ) (s : ℕ) → list_any (λ y. nat_eq y s) xs ≡ false → Contains xs s → ⊥
not_in [] s lacks there = absurd (omega (arith, there.1))
not_in (x ∷ xs) s lacks there =
    let both = parts (nat_eq x s) (list_any (λ y. nat_eq y s) xs) lacks in
    not_in xs s both.1 (Contains-tail x xs s (λ same. let is : nat_eq x s ≡ true = grind (arith, nat_tests, same) in false≢true (sym both.0 ∙ is)) there)

-- the first of them has not the slot
pub sought_on : (winners left : List Found) (s : ℕ) (f : Found) (rest : List Found) → SoughtIn winners left s → left ≡ f ∷ rest → list_any (λ y. nat_eq y s) f.chain ≡ false → SoughtIn winners rest s
sought_on winners left s f rest w is lacks = record {
  part = λ g there. w.part g (subst (λ l. Contains l g) (sym is) (Contains-append_right (f ∷ []) rest g there));
  only = λ g there has. Contains-tail f rest g (λ same. not_in f.chain s lacks (subst (λ u. Contains u.chain s) (sym same) has)) (subst (λ l. Contains l g) is (w.only g there has));
}

-- none has it
pub none_left : (anchors : ℕ) (winners left : List Found) (s : ℕ) → SoughtIn winners left s → length left ≡ 0 → IsOwner anchors winners s 0
none_left anchors winners left s w none = inr ((λ f there has. let in_left = w.only f there has in omega (arith, none, in_left.1)), refl)

-- the owners of the slots so far, and that of one more
pub owned_on : (anchors : ℕ) (winners : List Found) (owners grown : List ℕ) (s owner : ℕ) → length owners ≡ s → AreOwners anchors winners owners → IsOwner anchors winners s owner → grown ≡ owners ++ owner ∷ []
    → AreOwners anchors winners grown
owned_on anchors winners owners grown s owner count all is grows = subst (AreOwners anchors winners) (sym grows) (λ t within. elim (cases_lt t (length owners)) as (λ _. IsOwner anchors winners t (slice_index (owners ++ owner ∷ []) t)) [
  | inl less ↦ subst (IsOwner anchors winners t) (sym (get_or_append_left owners (owner ∷ []) 0 t less)) (all t less)
  | inr more ↦
      let last : t ≡ length owners = omega (arith, within, more, length_push owners owner) in
      subst (IsOwner anchors winners t) (sym (get_or_push owners owner 0 t (sym last))) (subst (λ u. IsOwner anchors winners u owner) (sym count ∙ sym last) is)
])
