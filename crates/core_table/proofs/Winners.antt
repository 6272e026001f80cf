-- What holds of the entries that a rebuild kept.
use Rattle.std.proofs.Common.{◌≡◌, ◌≢◌, ◌⊎◌, inl, inr, ⊎_elim, ℕ, suc, ◌+◌, ◌<◌, ◌≤◌, List, [], ◌∷◌, length, map, sym, refl, ap, ◌∙◌, subst, arith, Contains, All}
use Rattle.std.specs.Prelude.{nat_eq, slice_index}
use Rattle.std.specs.List.{IsDistinct}
use Rattle.std.specs.List.Sorted.{IsStrictlyIncreasing}
use Rattle.std.proofs.lemmas.List.Elements.{All-head, All-weaker, All-contains_itself}
use mathlib.Core.Logic.{dite}
use native.Mathlib.Decide.{ℕ_discrete}
use Rattle.store_key.specs.Anchor.{anchor_of}
use Rattle.rebuild_model.specs.declared.found.Found.{Found}
use Rattle.rebuild_model.specs.declared.rebuilt.Rebuilt.{Rebuilt}
use Rattle.rebuild_model.specs.Image.{BelongsTo}
use Rattle.rebuild_model.specs.Entry.{Entry, found_of}
use Rattle.rebuild_model.specs.Rebuilt.{IsRebuilt}
use Rattle.lock_word.specs.Words.{version_limit}
use Rattle.core_model.proofs.Lists.{cons_contains, contains_none}
use Rattle.core_model.proofs.SlotsOpened.{contains_map}
use Rattle.core_table.specs.Kept.{AreWithin}
use Rattle.core_table.proofs.Placing.{Apart, first_in, later_in, SharesNone}

apart_weaker : {Y : Type 0} (R Q : Y → Y → Type 0) (ys : List Y) → ((y z : Y) → Contains ys y → Contains ys z → R y z → Q y z) → Apart R ys → Apart Q ys
apart_weaker R Q [] weaker h = tt
apart_weaker R Q (y ∷ ys) weaker h = (
  λ z has. weaker y z (first_in y ys) (later_in y z ys has) (h.0 z has),
  apart_weaker R Q ys (λ u v has there. weaker u v (later_in y u ys has) (later_in y v ys there)) h.1,
)

rest_up : (x : ℕ) (xs : List ℕ) → IsStrictlyIncreasing (x ∷ xs) → IsStrictlyIncreasing xs
rest_up x xs up k lt =
    let next : suc k + 1 ≡ suc (k + 1) = omega arith in
    subst (λ (i : ℕ). slice_index xs k < slice_index (x ∷ xs) i) next (up (suc k) (omega arith))

-- numbers in order are below all that come later
below_later : (x : ℕ) (xs : List ℕ) → IsStrictlyIncreasing (x ∷ xs) → (y : ℕ) → Contains xs y → x < y
below_later x [] up y h = absurd (contains_none y h)
below_later x (z ∷ zs) up y h = let first : x < z = up 0 (omega arith) in ⊎_elim
    (λ (e : z ≡ y). omega arith)
    (λ (q : Contains zs y). let later = below_later z zs (rest_up x (z ∷ zs) up) y q in omega arith)
    (cons_contains z y zs h)

contains_at : {Y : Type 0} (place : Y → ℕ) (ys : List Y) (y : Y) → Contains ys y → Contains (map place ys) (place y)
contains_at place [] y h = absurd (contains_none y h)
contains_at place (z ∷ zs) y h = ⊎_elim
    (λ (e : z ≡ y). subst (Contains (map place (z ∷ zs))) (ap place e) (first_in (place z) (map place zs)))
    (λ (q : Contains zs y). later_in (place z) (place y) (map place zs) (contains_at place zs y q))
    (cons_contains z y zs h)

in_order : {Y : Type 0} (place : Y → ℕ) (ys : List Y) → IsStrictlyIncreasing (map place ys) → Apart (λ y z. place y < place z) ys
in_order place [] up = tt
in_order place (y ∷ ys) up = (
  λ z h. below_later (place y) (map place ys) up (place z) (contains_at place ys z h),
  in_order place ys (rest_up (place y) (map place ys) up),
)

map_map : {X Y Z : Type 0} (f : X → Y) (g : Y → Z) (xs : List X) → map g (map f xs) ≡ map (λ x. g (f x)) xs
map_map f g [] = refl
map_map f g (x ∷ xs) = ap (λ zs. g (f x) ∷ zs) (map_map f g xs)

-- an entry at this anchor, or none
pub held_or_not : (place : Found → ℕ) (fs : List Found) (a : ℕ) → ((f : Found) × Contains fs f × (place f ≡ a)) ⊎ ((f : Found) → Contains fs f → place f ≡ a → ⊥)
held_or_not place [] a = inr (λ f h e. contains_none f h)
held_or_not place (g ∷ fs) a = dite (ℕ_discrete (place g) a)
    (λ e. inl (g, first_in g fs, e))
    (λ ne. ⊎_elim
    (λ (q : (f : Found) × Contains fs f × (place f ≡ a)). inl (q.0, later_in g q.0 fs q.1, q.2))
    (λ (none : (f : Found) → Contains fs f → place f ≡ a → ⊥).
    inr (λ f h e. ⊎_elim (λ (same : g ≡ f). ne (ap place same ∙ e)) (λ (q : Contains fs f). none f q e) (cons_contains g f fs h)))
    (held_or_not place fs a))

module _ (slot anchors : ℕ) (images : List (List ℕ)) (r : Rebuilt) (b : IsRebuilt slot images anchors r) where
  abbrev place : Found → ℕ
  place f = anchor_of f.key anchors

  entry_is : (f : Found) → Contains r.winners f → (e : Entry) × Contains b.entries e × (found_of e ≡ f)
  entry_is f h = contains_map found_of b.entries f (subst (λ (fs : List Found). Contains fs f) b.told h)

  pub chain_once : (f : Found) → Contains r.winners f → IsDistinct nat_eq f.chain
  chain_once f h = let e = entry_is f h in subst (λ (g : Found). IsDistinct nat_eq g.chain) e.2 (b.won e.0 e.1).complete.chain.once

  pub all_within : AreWithin r.winners (length images)
  all_within = All-weaker (Contains r.winners) (λ (f : Found). All (λ s. s < length images) f.chain) within r.winners (All-contains_itself r.winners)
    where
      within : (f : Found) → Contains r.winners f → All (λ s. s < length images) f.chain
      within f h = let e = entry_is f h in subst (λ (g : Found). All (λ s. s < length images) g.chain) e.2
          (All-weaker (BelongsTo slot images e.0.first) (λ s. s < length images) (λ s belongs. belongs.sane.within) e.0.chain (b.won e.0 e.1).complete.chain.belong)

  pub has_owner : (f : Found) → Contains r.winners f → (s : ℕ) → Contains f.chain s → slice_index r.owner s ≡ place f + 1
  has_owner f h = let e = entry_is f h in subst (λ (g : Found). (s : ℕ) → Contains g.chain s → slice_index r.owner s ≡ place g + 1) e.2 (λ s has. b.owned e.0 s e.1 has)

  -- a slot of no entry
  pub free_in_none : (s : ℕ) → slice_index r.owner s ≡ 0 → (f : Found) → Contains r.winners f → Contains f.chain s → ⊥
  free_in_none s free f h has = let owner = has_owner f h s has in omega arith

  pub version_to : (f : Found) → Contains r.winners f → f.version ≤ r.greatest
  version_to f h = let e = entry_is f h in let whole = (b.won e.0 e.1).complete in
      let belong = subst (All (BelongsTo slot images e.0.first)) whole.chain.begins whole.chain.belong in
      let first = All-head (BelongsTo slot images e.0.first) e.0.first whole.chain.behind belong in
      let most = b.greatest.above e.0.first first.sane in let version = whole.version in
      subst (λ (g : Found). g.version ≤ r.greatest) e.2 (omega arith)

  pub version_from : (f : Found) → Contains r.winners f → 0 < f.version
  version_from f h = let e = entry_is f h in let whole = (b.won e.0 e.1).complete in
      let belong = subst (All (BelongsTo slot images e.0.first)) whole.chain.begins whole.chain.belong in
      let first = All-head (BelongsTo slot images e.0.first) e.0.first whole.chain.behind belong in
      let least = first.sane.sane.version_from in let version = whole.version in
      subst (λ (g : Found). 0 < g.version) e.2 (omega arith)

  pub greatest_to : r.greatest ≤ version_limit
  greatest_to = dite (ℕ_discrete r.greatest 0) (λ e. omega arith)
      (λ ne. let there = b.greatest.there (omega arith) in let most = there.1.sane.version_to in let same = there.2 in omega arith)

  ordered : Apart (λ f g. place f < place g) r.winners
  ordered = subst (Apart (λ f g. place f < place g)) (sym b.told)
      (in_order place (map found_of b.entries) (subst IsStrictlyIncreasing (sym (map_map found_of place b.entries)) b.ordered))

  pub anchors_apart : Apart (λ f g. place f ≢ place g) r.winners
  anchors_apart = apart_weaker (λ f g. place f < place g) (λ f g. place f ≢ place g) r.winners (λ f g h k lt e. omega arith) ordered

  pub chains_apart : Apart SharesNone r.winners
  chains_apart = apart_weaker (λ f g. place f < place g) SharesNone r.winners
      (λ f g h k lt s has there. let p = has_owner f h s has in let q = has_owner g k s there in omega arith) ordered
