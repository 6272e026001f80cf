-- The best entry at each anchor, sought from the last entry to the first.
use Rattle.std.proofs.Common.{◌≡◌, ◌⊎◌, inl, inr, ℕ, zero, suc, ◌+◌, ◌<◌, ◌≤◌, true, false, List, [], ◌∷◌, ◌++◌, length, map, take, drop, get_or, add-one, refl, ap, sym, ◌∙◌, subst, arith}
use Rattle.std.specs.Prelude.{Option, None, Some, MatchOption, Contains, All, nat_eq}
use Rattle.std.specs.List.{AllPairs, slice_get}
use Rattle.std.specs.List.Sorted.{IsStrictlyIncreasing}
use Rattle.std.proofs.Math.ListN.{set, length-set}
use Rattle.std.proofs.lemmas.Bool.{cases_lt}
use Rattle.std.proofs.lemmas.Bool.Decides.{nat_tests}
use Rattle.std.proofs.lemmas.List.{get_or-map, get_or-set_same, get_or-set_other, length-map, length-drop, take-append-drop}
use Rattle.std.proofs.lemmas.Option.{slice_get_within, get_or_from_slice_get}
use Rattle.std.proofs.Math.Seq.{drop-cons}
use Rattle.std.proofs.lemmas.List.Elements.{All-contains}
use Rattle.std.proofs.lemmas.List.Kept.{AllPairs-from_increasing}
use Rattle.store_key.specs.Anchor.{anchor_of}
use Rattle.rebuild_model.specs.declared.found.Found.{Found}
use Rattle.rock_rebuild.specs.Best.{IsBestOf, BestOf, AreBest, found_at}

pub here_or_behind : {X : Type 0} (x : X) (xs : List X) (y : X) → Contains (x ∷ xs) y → (x ≡ y) ⊎ Contains xs y
here_or_behind x xs y (zero, within, is) = inl is
here_or_behind x xs y (suc k, within, is) = inr (k, omega (arith, within), is)

pub behind : {X : Type 0} (x : X) (xs : List X) (y : X) → Contains xs y → Contains (x ∷ xs) y
behind x xs y there = (suc there.0, omega (arith, there.1), there.2)

-- the first of these is at an anchor, and begins before the others
pub record Leads (anchors anchor : ℕ) (found : Found) (others : List Found) : Type 0 where
  pub at : anchor_of found.key anchors ≡ anchor
  pub before : All (λ f. found.first < f.first) others

-- no other is there
pub alone : (anchors anchor : ℕ) (found : Found) (others : List Found) → Leads anchors anchor found others → ((f : Found) → Contains others f → anchor_of f.key anchors ≡ anchor → ⊥) → IsBestOf anchors anchor (found ∷ others) found
alone anchors anchor found others leads none = record {
  among = (0, omega arith, refl);
  at = leads.at;
  best = λ f there at. elim (here_or_behind found others f there) as (λ _. (f.version < found.version) ⊎ ((f.version ≡ found.version) × (found.first ≤ f.first))) [
    | inl same ↦ inr (ap (λ g. g.version) (sym same), omega (arith, ap (λ g. g.first) same))
    | inr other ↦ absurd (none f other at)
  ];
}

-- a newer one is there
pub stays : (anchors anchor : ℕ) (found : Found) (others : List Found) (best : Found) → IsBestOf anchors anchor others best → found.version < best.version → IsBestOf anchors anchor (found ∷ others) best
stays anchors anchor found others best is newer = record {
  among = behind found others best is.among;
  at = is.at;
  best = λ f there at. elim (here_or_behind found others f there) as (λ _. (f.version < best.version) ⊎ ((f.version ≡ best.version) × (best.first ≤ f.first))) [
    | inl same ↦ inl (omega (arith, newer, ap (λ g. g.version) same))
    | inr other ↦ is.best f other at
  ];
}

no_newer : (v w best first g : ℕ) → v ≤ w → (g < v) ⊎ ((g ≡ v) × (best ≤ first)) → g ≤ w
no_newer v w best first g not (inl less) = omega (arith, not, less)
no_newer v w best first g not (inr same) = omega (arith, not, same.0)

-- or none that is newer
pub replaces : (anchors anchor : ℕ) (found : Found) (others : List Found) (best : Found) → Leads anchors anchor found others → IsBestOf anchors anchor others best → best.version ≤ found.version → IsBestOf anchors anchor (found ∷ others) found
replaces anchors anchor found others best leads is not = record {
  among = (0, omega arith, refl);
  at = leads.at;
  best = λ f there at. elim (here_or_behind found others f there) as (λ _. (f.version < found.version) ⊎ ((f.version ≡ found.version) × (found.first ≤ f.first))) [
    | inl same ↦ inr (ap (λ g. g.version) (sym same), omega (arith, ap (λ g. g.first) same))
    | inr other ↦
        let old : f.version ≤ found.version = no_newer best.version found.version best.first f.first f.version not (is.best f other at) in
        let later : found.first < f.first = All-contains (λ g. found.first < g.first) others f leads.before other in
        elim (cases_lt f.version found.version) as (λ _. (f.version < found.version) ⊎ ((f.version ≡ found.version) × (found.first ≤ f.first))) [
          | inl less ↦ inl less
          | inr more ↦ inr (omega (arith, old, more), omega (arith, later))
        ]
  ];
}

-- at other anchors all stays
pub passed : (anchors anchor : ℕ) (found : Found) (others : List Found) (best : Option Found) → (anchor_of found.key anchors ≡ anchor → ⊥) → BestOf anchors anchor others best → BestOf anchors anchor (found ∷ others) best
passed anchors anchor found others None not none = λ f there at. elim (here_or_behind found others f there) as (λ _. ⊥) [
  | inl same ↦ not (ap (λ g. anchor_of g.key anchors) same ∙ at)
  | inr other ↦ none f other at
]
passed anchors anchor found others (Some best) not is = record {
  among = behind found others best is.among;
  at = is.at;
  best = λ f there at. elim (here_or_behind found others f there) as (λ _. (f.version < best.version) ⊎ ((f.version ≡ best.version) × (best.first ≤ f.first))) [
    | inl same ↦ absurd (not (ap (λ g. anchor_of g.key anchors) same ∙ at))
    | inr other ↦ is.best f other at
  ];
}

pub apart : (y s : ℕ) → nat_eq y s ≡ false → s ≡ y → ⊥
apart y s e same = grind (arith, nat_tests)

pub together : (y s : ℕ) → nat_eq y s ≡ true → y ≡ s
together y s e = grind (arith, nat_tests)

-- the entries from a place on, where one is there
pub front_of : (found : List Found) (place : ℕ) (f : Found) → slice_get found place ≡ Some f → drop place found ≡ f ∷ drop (place + 1) found
front_of found place f there =
    drop-cons found place f (slice_get_within found place f there)
    ∙ ap (λ g. g ∷ drop (suc place) found) (get_or_from_slice_get found place f f there)
    ∙ ap (λ n. f ∷ drop n found) (sym (add-one place))

pub one_more : (anchors anchor place : ℕ) (found : List Found) (best : List (Option ℕ)) (f : Found) (after : Option ℕ) → AreBest anchors found (place + 1) best → anchor < anchors → slice_get found place ≡ Some f → anchor_of f.key anchors ≡ anchor
    → BestOf anchors anchor (drop place found) (found_at found after) → AreBest anchors found place (set best anchor after)
one_more anchors anchor place found best f after are below there at is = record {
  count = length-set best anchor after ∙ are.count;
  each = λ other inside. elim (nat_eq anchor other) as (λ t. nat_eq anchor other ≡ t → BestOf anchors other (drop place found) (found_at found (get_or (set best anchor after) other None))) [
    | true ↦ λ e.
        let same : anchor ≡ other = together anchor other e in
        let now : get_or (set best anchor after) anchor None ≡ after = get_or-set_same best anchor after None (omega (arith, below, are.count)) in
        subst (λ a. BestOf anchors a (drop place found) (found_at found (get_or (set best anchor after) a None))) same (subst (λ o. BestOf anchors anchor (drop place found) (found_at found o)) (sym now) is)
    | false ↦ λ e.
        let now : get_or (set best anchor after) other None ≡ get_or best other None = get_or-set_other best anchor other after None (apart anchor other e) in
        subst (λ o. BestOf anchors other (drop place found) (found_at found o)) (sym now)
        (subst (λ l. BestOf anchors other l (found_at found (get_or best other None))) (sym (front_of found place f there))
        (passed anchors other f (drop (place + 1) found) (found_at found (get_or best other None)) (λ is_other. apart anchor other e (sym is_other ∙ at)) (are.each other inside)))
  ] refl;
}

-- none of no entries
pub none_yet : (anchors : ℕ) (found : List Found) (best : List (Option ℕ)) → length best ≡ anchors → ((k : ℕ) → get_or best k None ≡ None) → AreBest anchors found (length found) best
none_yet anchors found best count none = record {
  count = count;
  each = λ anchor inside. subst (λ o. BestOf anchors anchor (drop (length found) found) (found_at found o)) (sym (none anchor)) (λ f there at. absurd (omega (arith, there.1, length-drop (length found) found)));
}

later_by_pairs : (xs : List Found) (x : Found) (rest : List Found) → AllPairs (λ a b. a < b) (map (λ f. f.first) (xs ++ x ∷ rest)) → All (λ f. x.first < f.first) rest
later_by_pairs [] x rest pairs k d within =
    let count = length-map rest (λ f. f.first) in
    let less = pairs 0 (suc k) 0 (omega arith) (omega (arith, within, count)) in
    subst (λ n. x.first < n) (get_or-map (λ f. f.first) rest k d 0 within) less
later_by_pairs (y ∷ xs) x rest pairs k d within = later_by_pairs xs x rest (λ i j e below inside. pairs (suc i) (suc j) e (omega (arith, below)) (omega (arith, inside))) k d within

-- where entries stand in order, those behind one begin behind it
pub later : (xs : List Found) (x : Found) (rest : List Found) → IsStrictlyIncreasing (map (λ f. f.first) (xs ++ x ∷ rest)) → All (λ f. x.first < f.first) rest
later xs x rest up = later_by_pairs xs x rest (AllPairs-from_increasing (map (λ f. f.first) (xs ++ x ∷ rest)) up)

-- those behind a place
pub later_at : (found : List Found) (place : ℕ) (f : Found) → IsStrictlyIncreasing (map (λ g. g.first) found) → slice_get found place ≡ Some f → All (λ g. f.first < g.first) (drop (place + 1) found)
later_at found place f up there =
    let split : found ≡ take place found ++ f ∷ drop (place + 1) found = sym (take-append-drop place found) ∙ ap (λ l. take place found ++ l) (front_of found place f there) in
    later (take place found) f (drop (place + 1) found) (subst (λ l. IsStrictlyIncreasing (map (λ g. g.first) l)) split up)

pub takes_it : (anchors anchor place : ℕ) (found : List Found) (f : Found) (best : Option Found) → slice_get found place ≡ Some f → IsStrictlyIncreasing (map (λ g. g.first) found) → anchor_of f.key anchors ≡ anchor
    → BestOf anchors anchor (drop (place + 1) found) best → ((b : Found) → best ≡ Some b → b.version ≤ f.version) → IsBestOf anchors anchor (drop place found) f
takes_it anchors anchor place found f None there up at none old =
    let leads : Leads anchors anchor f (drop (place + 1) found) = record { at = at; before = later_at found place f up there } in
    subst (λ l. IsBestOf anchors anchor l f) (sym (front_of found place f there)) (alone anchors anchor f (drop (place + 1) found) leads none)
takes_it anchors anchor place found f (Some b) there up at is old =
    let leads : Leads anchors anchor f (drop (place + 1) found) = record { at = at; before = later_at found place f up there } in
    subst (λ l. IsBestOf anchors anchor l f) (sym (front_of found place f there)) (replaces anchors anchor f (drop (place + 1) found) b leads is (old b refl))

takes_what_is : (anchors anchor place : ℕ) (found : List Found) (best here : Option Found) → slice_get found place ≡ here → IsStrictlyIncreasing (map (λ g. g.first) found) → MatchOption here ⊥ (λ f. anchor_of f.key anchors ≡ anchor)
    → BestOf anchors anchor (drop (place + 1) found) best → ((b f : Found) → best ≡ Some b → here ≡ Some f → b.version ≤ f.version) → BestOf anchors anchor (drop place found) here
takes_what_is anchors anchor place found best None there up none behind old = absurd none
takes_what_is anchors anchor place found best (Some f) there up at behind old = takes_it anchors anchor place found f best there up at behind (λ b is. old b f is refl)

-- the entry at a place is kept where none behind it is newer
pub takes : (anchors anchor place : ℕ) (found : List Found) (best : Option Found) → IsStrictlyIncreasing (map (λ g. g.first) found) → MatchOption (slice_get found place) ⊥ (λ f. anchor_of f.key anchors ≡ anchor)
    → BestOf anchors anchor (drop (place + 1) found) best → ((b f : Found) → best ≡ Some b → slice_get found place ≡ Some f → b.version ≤ f.version) → BestOf anchors anchor (drop place found) (slice_get found place)
takes anchors anchor place found best up at behind old = takes_what_is anchors anchor place found best (slice_get found place) refl up at behind old

-- and a newer one stays
pub remains : (anchors anchor place : ℕ) (found : List Found) (f b : Found) → slice_get found place ≡ Some f → IsBestOf anchors anchor (drop (place + 1) found) b → f.version < b.version → IsBestOf anchors anchor (drop place found) b
remains anchors anchor place found f b there is newer = subst (λ l. IsBestOf anchors anchor l b) (sym (front_of found place f there)) (stays anchors anchor f (drop (place + 1) found) b is newer)
