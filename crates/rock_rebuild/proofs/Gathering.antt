-- The complete entries, gathered slot by slot.
use Rattle.std.proofs.Common.{◌≡◌, ◌⊎◌, inl, inr, ℕ, ◌+◌, ◌<◌, List, [], ◌∷◌, ◌++◌, length, map, ap, sym, ◌∙◌, subst, arith}
use Rattle.std.specs.Prelude.{Contains, All, slice_index}
use Rattle.std.specs.List.Sorted.{IsStrictlyIncreasing}
use Rattle.std.proofs.lemmas.Bool.{cases_lt}
use Rattle.std.proofs.lemmas.List.{map-append, length_push, get_or_append_left, get_or_push}
use Rattle.std.proofs.lemmas.List.Elements.{All-push, Contains-push, Contains-push_cases, Contains-append_left}
use Rattle.rebuild_model.specs.declared.found.Found.{Found}
use Rattle.rebuild_model.specs.Entry.{Entry, IsComplete, found_of}
use Rattle.rebuild_model.specs.Plain.{IsFound, HasNoEntry}
use Rattle.rock_rebuild.specs.Gathered.{AreFound}

-- one entry begins at a slot
abbrev pub One : Type 0
One = (slot : ℕ) (images : List (List ℕ)) (e f : Entry) → IsComplete slot images e → IsComplete slot images f → e.first ≡ f.first → e ≡ f

abbrev firsts : List Entry → List ℕ
firsts entries = map (λ e. e.first) entries

nearer : (s bound : ℕ) → s < bound + 1 → (s < bound) ⊎ (s ≡ bound)
nearer s bound below = elim (cases_lt s bound) as (λ _. (s < bound) ⊎ (s ≡ bound)) [ inl less ↦ inl less | inr more ↦ inr (omega (arith, below, more)) ]

-- a number above all others can stand behind them
grow : (xs : List ℕ) (y : ℕ) → IsStrictlyIncreasing xs → All (λ x. x < y) xs → IsStrictlyIncreasing (xs ++ y ∷ [])
grow xs y up below k within =
    let longer = length_push xs y in
    elim (cases_lt (k + 1) (length xs)) as (λ _. slice_index (xs ++ y ∷ []) k < slice_index (xs ++ y ∷ []) (k + 1)) [
      | inl less ↦ omega (arith, up k less, get_or_append_left xs (y ∷ []) 0 k (omega (arith, less)), get_or_append_left xs (y ∷ []) 0 (k + 1) less)
      | inr more ↦ omega (arith, below k 0 (omega (arith, within, longer)), get_or_append_left xs (y ∷ []) 0 k (omega (arith, within, longer)), get_or_push xs y 0 (k + 1) (omega (arith, within, longer, more)))
    ]

weaken : (xs : List ℕ) (bound : ℕ) → All (λ x. x < bound) xs → All (λ x. x < bound + 1) xs
weaken xs bound all k d within = omega (arith, all k d within)

pub none_yet : (slot : ℕ) (images : List (List ℕ)) (found : List Found) → found ≡ [] → AreFound slot images 0 found
none_yet slot images found none = record {
  entries = [];
  told = none;
  complete = λ e there. absurd (omega (arith, there.1));
  every = λ e c less. absurd (omega (arith, less));
  ordered = λ k within. absurd (omega (arith, within));
  below = λ k d within. absurd (omega (arith, within));
}

-- no entry begins at the next slot
pub none_here : (slot : ℕ) (images : List (List ℕ)) (first : ℕ) (found : List Found) → AreFound slot images first found → HasNoEntry slot images first → AreFound slot images (first + 1) found
none_here slot images first found are none = record {
  entries = are.entries;
  told = are.told;
  complete = are.complete;
  every = λ e c less. elim (nearer e.first first less) as (λ _. Contains are.entries e) [ inl lower ↦ are.every e c lower | inr same ↦ absurd (none e c same) ];
  ordered = are.ordered;
  below = weaken (firsts are.entries) first are.below;
}

-- or this one does
pub one_more : One → (slot : ℕ) (images : List (List ℕ)) (first : ℕ) (found grown : List Found) (f : Found) → AreFound slot images first found → IsFound slot images first f → grown ≡ found ++ f ∷ []
    → AreFound slot images (first + 1) grown
one_more one slot images first found grown f are is grows =
    let e : Entry = is.entry in
    let begins : e.first ≡ first = is.begins in
    let maps : firsts (are.entries ++ e ∷ []) ≡ firsts are.entries ++ e.first ∷ [] = map-append (λ g. g.first) are.entries (e ∷ []) in
    record {
      entries = are.entries ++ e ∷ [];
      told = grows ∙ ap (λ l. l ++ f ∷ []) are.told ∙ ap (λ u. map found_of are.entries ++ u ∷ []) is.told ∙ sym (map-append found_of are.entries (e ∷ []));
      complete = λ g there. elim (Contains-push_cases are.entries e g there) as (λ _. IsComplete slot images g) [
        | inl old ↦ are.complete g old
        | inr same ↦ subst (IsComplete slot images) same is.complete
      ];
      every = λ g c less. elim (nearer g.first first less) as (λ _. Contains (are.entries ++ e ∷ []) g) [
        | inl lower ↦ Contains-append_left are.entries (e ∷ []) g (are.every g c lower)
        | inr same ↦ subst (Contains (are.entries ++ e ∷ [])) (one slot images e g is.complete c (begins ∙ sym same)) (Contains-push are.entries e)
      ];
      ordered = subst IsStrictlyIncreasing (sym maps) (grow (firsts are.entries) e.first are.ordered (subst (λ b. All (λ x. x < b) (firsts are.entries)) (sym begins) are.below));
      below = subst (All (λ s. s < first + 1)) (sym maps) (All-push (λ s. s < first + 1) (firsts are.entries) e.first (weaken (firsts are.entries) first are.below) (omega (arith, begins)));
    }
