-- What holds of the entries of a rebuild that may be opened.
use Rattle.std.proofs.Common.{◌≡◌, ◌≢◌, ⊎_elim, ℕ, suc, ◌+◌, ◌<◌, List, [], ◌∷◌, map, ap, subst, arith, Contains, All}
use Rattle.std.specs.Prelude.{slice_index}
use Rattle.std.specs.List.Sorted.{IsStrictlyIncreasing}
use Rattle.std.proofs.lemmas.List.Elements.{All-weaker, All-contains_itself}
use Rattle.store_key.specs.Anchor.{anchor_of}
use Rattle.rebuild_model.specs.declared.found.Found.{Found}
use Rattle.rebuild_model.specs.declared.rebuilt.Rebuilt.{Rebuilt}
use Rattle.core_model.proofs.Lists.{cons_contains, contains_none}
use Rattle.core_table.specs.Kept.{AreWithin}
use Rattle.core_table.proofs.Placing.{Apart, first_in, later_in, SharesNone}
use Rattle.core_openings.specs.KeptSo.{IsKeptSo}

apart_weaker : {Y : Type 0} (R Q : Y → Y → Type 0) (ys : List Y) → ((y z : Y) → Contains ys y → Contains ys z → R y z → Q y z) → Apart R ys → Apart Q ys
apart_weaker R Q [] weaker h = tt
apart_weaker R Q (y ∷ ys) weaker h = (
  λ z has. weaker y z (first_in y ys) (later_in y z ys has) (h.0 z has),
  apart_weaker R Q ys (λ u v has there. weaker u v (later_in y u ys has) (later_in y v ys there)) h.1,
)

rest_up : (x : ℕ) (xs : List ℕ) → IsStrictlyIncreasing (x ∷ xs) → IsStrictlyIncreasing xs
rest_up x xs up k lt =
    let next : suc k + 1 ≡ suc (k + 1) = omega arith in
    subst (λ (i : ℕ). slice_index xs k < slice_index (x ∷ xs) i) next (up (suc k) (omega arith))

-- numbers in order are below all that come later
below_later : (x : ℕ) (xs : List ℕ) → IsStrictlyIncreasing (x ∷ xs) → (y : ℕ) → Contains xs y → x < y
below_later x [] up y h = absurd (contains_none y h)
below_later x (z ∷ zs) up y h = let first : x < z = up 0 (omega arith) in ⊎_elim
    (λ (e : z ≡ y). omega arith)
    (λ (q : Contains zs y). let later = below_later z zs (rest_up x (z ∷ zs) up) y q in omega arith)
    (cons_contains z y zs h)

contains_at : {Y : Type 0} (place : Y → ℕ) (ys : List Y) (y : Y) → Contains ys y → Contains (map place ys) (place y)
contains_at place [] y h = absurd (contains_none y h)
contains_at place (z ∷ zs) y h = ⊎_elim
    (λ (e : z ≡ y). subst (Contains (map place (z ∷ zs))) (ap place e) (first_in (place z) (map place zs)))
    (λ (q : Contains zs y). later_in (place z) (place y) (map place zs) (contains_at place zs y q))
    (cons_contains z y zs h)

in_order : {Y : Type 0} (place : Y → ℕ) (ys : List Y) → IsStrictlyIncreasing (map place ys) → Apart (λ y z. place y < place z) ys
in_order place [] up = tt
in_order place (y ∷ ys) up = (
  λ z h. below_later (place y) (map place ys) up (place z) (contains_at place ys z h),
  in_order place ys (rest_up (place y) (map place ys) up),
)

module _ (anchors slots : ℕ) (r : Rebuilt) (b : IsKeptSo anchors slots r) where
  abbrev place : Found → ℕ
  place f = anchor_of f.key anchors

  pub all_within : AreWithin r.winners slots
  all_within = All-weaker (Contains r.winners) (λ (f : Found). All (λ s. s < slots) f.chain)
      (λ f h. All-weaker (Contains f.chain) (λ s. s < slots) (λ s has. b.within f h s has) f.chain (All-contains_itself f.chain))
      r.winners (All-contains_itself r.winners)

  -- a slot of no entry
  pub free_in_none : (s : ℕ) → slice_index r.owner s ≡ 0 → (f : Found) → Contains r.winners f → Contains f.chain s → ⊥
  free_in_none s free f h has = let owner = b.owned f s h has in omega arith

  ordered : Apart (λ f g. place f < place g) r.winners
  ordered = in_order place r.winners b.ordered

  pub anchors_apart : Apart (λ f g. place f ≢ place g) r.winners
  anchors_apart = apart_weaker (λ f g. place f < place g) (λ f g. place f ≢ place g) r.winners (λ f g h k lt e. omega arith) ordered

  pub chains_apart : Apart SharesNone r.winners
  chains_apart = apart_weaker (λ f g. place f < place g) SharesNone r.winners
      (λ f g h k lt s has there. let p = b.owned f s h has in let q = b.owned g s k there in omega arith) ordered
