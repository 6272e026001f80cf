-- The best candidate at each anchor, sought from the last entry to the first.
use Rattle.std.proofs.Common.{◌≡◌, inl, inr, ℕ, ◌+◌, ◌<◌, ◌≤◌, true, false, List, length, map, drop, get_or, refl, ap, sym, ◌∙◌, subst, arith}
use Rattle.std.specs.Prelude.{Option, None, Some, MatchOption, nat_eq}
use Rattle.std.specs.List.{slice_get}
use Rattle.std.specs.List.Sorted.{IsStrictlyIncreasing}
use Rattle.std.specs.Option.{option_map}
use Rattle.std.proofs.Math.ListN.{set, length-set}
use Rattle.std.proofs.lemmas.Bool.{cases_lt}
use Rattle.std.proofs.lemmas.List.{get_or-set_same, get_or-set_other}
use Rattle.std.proofs.lemmas.Option.{slice_get-map}
use Rattle.store_key.specs.Anchor.{anchor_of}
use Rattle.rebuild_model.specs.declared.found.Found.{Found}
use Rattle.rock_rebuild.specs.declared.candidates.Candidate.{Candidate}
use Rattle.rock_rebuild.specs.Best.{BestOf}
use Rattle.rock_rebuild.specs.Candidates.{candidate_of, AreBestAs}
use Rattle.rock_rebuild.proofs.Options.{one_of, not_both}
use Rattle.rock_rebuild.proofs.Choosing.{passed, apart, together, front_of, takes_it, remains}

-- which of two is kept
abbrev pub Better : Option Candidate → Candidate → Candidate → Type 0
Better kept c r = MatchOption kept (r ≡ c) (λ k. (c.version < k.version → r ≡ k) × (k.version ≤ c.version → r ≡ c))

-- this is told of the best entry at an anchor, of those that stand from a place on
abbrev pub TellsBest : ℕ → List Found → ℕ → ℕ → Option Candidate → Type 0
TellsBest anchors found from anchor best = (kept : Option Found) × BestOf anchors anchor (drop from found) kept × (best ≡ option_map (candidate_of anchors) kept)

-- what is kept where the entry at a place stands
here_as : (anchors place : ℕ) (found : List Found) (f : Found) (old : Option Found) (r : Candidate) → IsStrictlyIncreasing (map (λ g. g.first) found) → slice_get found place ≡ Some f
    → BestOf anchors (anchor_of f.key anchors) (drop (place + 1) found) old → Better (option_map (candidate_of anchors) old) (candidate_of anchors f) r
    → TellsBest anchors found place (anchor_of f.key anchors) (Some r)
here_as anchors place found f None r up there behind is = (Some f, takes_it anchors (anchor_of f.key anchors) place found f None there up refl behind (λ b e. absurd (not_both refl e)), ap Some is)
here_as anchors place found f (Some b) r up there behind is = elim (cases_lt f.version b.version) as (λ _. TellsBest anchors found place (anchor_of f.key anchors) (Some r)) [
  | inl less ↦ (Some b, remains anchors (anchor_of f.key anchors) place found f b there behind less, ap Some (is.0 less))
  | inr more ↦ (
    Some f,
    takes_it anchors (anchor_of f.key anchors) place found f (Some b) there up refl behind (λ x e. omega (arith, more, ap (λ g. g.version) (one_of refl e))),
    ap Some (is.1 more),
  )
]

pub one_more_chosen : (anchors place : ℕ) (found : List Found) (best : List (Option Candidate)) (f : Found) (r : Candidate) → slice_get found place ≡ Some f → IsStrictlyIncreasing (map (λ g. g.first) found) → AreBestAs anchors found (place + 1) best
    → anchor_of f.key anchors < length best → Better (get_or best (anchor_of f.key anchors) None) (candidate_of anchors f) r → AreBestAs anchors found place (set best (anchor_of f.key anchors) (Some r))
one_more_chosen anchors place found best f r there up are inside better =
    let a = anchor_of f.key anchors in record {
      count = length-set best a (Some r) ∙ are.count;
      each = λ other below. elim (nat_eq a other) as (λ t. nat_eq a other ≡ t → TellsBest anchors found place other (get_or (set best a (Some r)) other None)) [
        | true ↦ λ e.
            let now : get_or (set best a (Some r)) a None ≡ Some r = get_or-set_same best a (Some r) None inside in
            let old = are.each a (omega (arith, inside, are.count)) in
            let kept = here_as anchors place found f old.0 r up there old.1 (subst (λ k. Better k (candidate_of anchors f) r) old.2 better) in
            subst (λ x. TellsBest anchors found place x (get_or (set best a (Some r)) x None)) (together a other e) (kept.0, kept.1, now ∙ kept.2)
        | false ↦ λ e.
            let old = are.each other below in (
              old.0,
              subst (λ l. BestOf anchors other l old.0) (sym (front_of found place f there)) (passed anchors other f (drop (place + 1) found) old.0 (λ is_other. apart a other e (sym is_other)) old.1),
              get_or-set_other best a other (Some r) None (apart a other e) ∙ old.2,
            )
      ] refl;
    }

-- whatever stands at the place
pub chosen_at : (anchors place : ℕ) (found : List Found) (best : List (Option Candidate)) (c r : Candidate) (here : Option Found) → slice_get found place ≡ here → IsStrictlyIncreasing (map (λ g. g.first) found)
    → MatchOption here ⊥ (λ f. c ≡ candidate_of anchors f) → AreBestAs anchors found (place + 1) best → c.anchor < length best → Better (get_or best c.anchor None) c r → AreBestAs anchors found place (set best c.anchor (Some r))
chosen_at anchors place found best c r None there up is are inside better = absurd is
chosen_at anchors place found best c r (Some f) there up is are inside better =
    subst (λ x. x.anchor < length best → Better (get_or best x.anchor None) x r → AreBestAs anchors found place (set best x.anchor (Some r))) (sym is)
    (one_more_chosen anchors place found best f r there up are) inside better

-- what is told at a place is told of the entry there
pub told_at : (anchors place : ℕ) (candidates : List Candidate) (found : List Found) (c : Candidate) (here : Option Found) → slice_get found place ≡ here → candidates ≡ map (candidate_of anchors) found → slice_get candidates place ≡ Some c
    → MatchOption here ⊥ (λ f. c ≡ candidate_of anchors f)
told_at anchors place candidates found c None none told there =
    not_both (ap (λ l. slice_get l place) told ∙ slice_get-map (candidate_of anchors) found place ∙ ap (option_map (candidate_of anchors)) none) there
told_at anchors place candidates found c (Some f) is told there =
    one_of there (ap (λ l. slice_get l place) told ∙ slice_get-map (candidate_of anchors) found place ∙ ap (option_map (candidate_of anchors)) is)
