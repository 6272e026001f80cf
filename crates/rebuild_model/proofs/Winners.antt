-- The entries that are kept, gathered anchor by anchor.
use Rattle.std.proofs.Common.{◌≡◌, ◌⊎◌, inl, inr, ℕ, ◌+◌, ◌<◌, List, [], ◌∷◌, ◌++◌, length, map, ap, sym, ◌∙◌, subst, arith}
use Rattle.std.specs.Prelude.{Contains, All, slice_index}
use Rattle.std.specs.List.Sorted.{IsStrictlyIncreasing}
use Rattle.std.proofs.lemmas.Bool.{cases_lt}
use Rattle.std.proofs.lemmas.List.{map-append, length_push, get_or_append_left, get_or_push}
use Rattle.std.proofs.lemmas.List.Elements.{All-push, Contains-push, Contains-push_cases, Contains-append_left}
use Rattle.store_key.specs.Anchor.{anchor_of}
use Rattle.rebuild_model.specs.declared.found.Found.{Found}
use Rattle.rebuild_model.specs.Entry.{Entry, found_of}
use Rattle.rebuild_model.specs.Rebuilt.{IsWinner}
use Rattle.rebuild_model.specs.Keeping.{HasNoneAt, IsKept, AreWinners}

abbrev pub anchors_of : ℕ → List Entry → List ℕ
anchors_of anchors entries = map (λ e. anchor_of e.key anchors) entries

-- what is below the next number is below this one, or is this one
pub nearer : (s bound : ℕ) → s < bound + 1 → (s < bound) ⊎ (s ≡ bound)
nearer s bound below = elim (cases_lt s bound) as (λ _. (s < bound) ⊎ (s ≡ bound)) [ inl less ↦ inl less | inr more ↦ inr (omega (arith, below, more)) ]

-- a number above all others can stand behind them
grow : (xs : List ℕ) (y : ℕ) → IsStrictlyIncreasing xs → All (λ x. x < y) xs → IsStrictlyIncreasing (xs ++ y ∷ [])
grow xs y up below k within =
    let longer = length_push xs y in
    elim (cases_lt (k + 1) (length xs)) as (λ _. slice_index (xs ++ y ∷ []) k < slice_index (xs ++ y ∷ []) (k + 1)) [
      | inl less ↦ omega (arith, up k less, get_or_append_left xs (y ∷ []) 0 k (omega (arith, less)), get_or_append_left xs (y ∷ []) 0 (k + 1) less)
      | inr more ↦ omega (arith, below k 0 (omega (arith, within, longer)), get_or_append_left xs (y ∷ []) 0 k (omega (arith, within, longer)), get_or_push xs y 0 (k + 1) (omega (arith, within, longer, more)))
    ]

weaken : (xs : List ℕ) (bound : ℕ) → All (λ x. x < bound) xs → All (λ x. x < bound + 1) xs
weaken xs bound all k d within = omega (arith, all k d within)

pub none_won : (slot : ℕ) (images : List (List ℕ)) (anchors : ℕ) (winners : List Found) → winners ≡ [] → AreWinners slot images anchors 0 winners
none_won slot images anchors winners none = record {
  entries = [];
  told = none;
  won = λ e there. absurd (omega (arith, there.1));
  ordered = λ k within. absurd (omega (arith, within));
  below = λ k d within. absurd (omega (arith, within));
  every = λ e c less. absurd (omega (arith, less));
}

pub none_here : (slot : ℕ) (images : List (List ℕ)) (anchors bound : ℕ) (winners : List Found) → AreWinners slot images anchors bound winners → HasNoneAt slot images anchors bound → AreWinners slot images anchors (bound + 1) winners
none_here slot images anchors bound winners w none = record {
  entries = w.entries;
  told = w.told;
  won = w.won;
  ordered = w.ordered;
  below = weaken (anchors_of anchors w.entries) bound w.below;
  every = λ e c less. elim (nearer (anchor_of e.key anchors) bound less) as (λ _. Contains (anchors_of anchors w.entries) (anchor_of e.key anchors)) [ inl lower ↦ w.every e c lower | inr same ↦ absurd (none e c same) ];
}

pub one_won : (slot : ℕ) (images : List (List ℕ)) (anchors bound : ℕ) (winners grown : List Found) (f : Found) → AreWinners slot images anchors bound winners → IsKept slot images anchors bound f → grown ≡ winners ++ f ∷ []
    → AreWinners slot images anchors (bound + 1) grown
one_won slot images anchors bound winners grown f w k grows =
    let e : Entry = k.entry in
    let at : anchor_of e.key anchors ≡ bound = k.winner.at in
    let maps : anchors_of anchors (w.entries ++ e ∷ []) ≡ anchors_of anchors w.entries ++ anchor_of e.key anchors ∷ [] = map-append (λ g. anchor_of g.key anchors) w.entries (e ∷ []) in
    let here : IsWinner slot images anchors (anchor_of e.key anchors) e = subst (λ a. IsWinner slot images anchors a e) (sym at) k.winner in
    record {
      entries = w.entries ++ e ∷ [];
      told = grows ∙ ap (λ l. l ++ f ∷ []) w.told ∙ ap (λ u. map found_of w.entries ++ u ∷ []) k.told ∙ sym (map-append found_of w.entries (e ∷ []));
      won = λ g there. elim (Contains-push_cases w.entries e g there) as (λ _. IsWinner slot images anchors (anchor_of g.key anchors) g) [
        | inl old ↦ w.won g old
        | inr same ↦ subst (λ h. IsWinner slot images anchors (anchor_of h.key anchors) h) same here
      ];
      ordered = subst IsStrictlyIncreasing (sym maps) (grow (anchors_of anchors w.entries) (anchor_of e.key anchors) w.ordered (subst (λ b. All (λ x. x < b) (anchors_of anchors w.entries)) (sym at) w.below));
      below = subst (All (λ a. a < bound + 1)) (sym maps) (All-push (λ a. a < bound + 1) (anchors_of anchors w.entries) (anchor_of e.key anchors) (weaken (anchors_of anchors w.entries) bound w.below) (omega (arith, at)));
      every = λ g c less. subst (λ xs. Contains xs (anchor_of g.key anchors)) (sym maps) (elim (nearer (anchor_of g.key anchors) bound less) as (λ _. Contains (anchors_of anchors w.entries ++ anchor_of e.key anchors ∷ []) (anchor_of g.key anchors)) [
        | inl lower ↦ Contains-append_left (anchors_of anchors w.entries) (anchor_of e.key anchors ∷ []) (anchor_of g.key anchors) (w.every g c lower)
        | inr same ↦ subst (Contains (anchors_of anchors w.entries ++ anchor_of e.key anchors ∷ [])) (at ∙ sym same) (Contains-push (anchors_of anchors w.entries) (anchor_of e.key anchors))
      ]);
    }
