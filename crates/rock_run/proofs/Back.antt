-- Shelves that came back from their workers.
use Rattle.std.proofs.Common.{All, Bool, Contains, List, [], ap, arith, length, map, refl, subst, suc, sym, zero, ◌∙◌, ◌∷◌, ◌≡◌, ◌<◌, ℕ}
use Rattle.std.proofs.lemmas.List.Elements.{All-contains_itself, All-map}
use Rattle.std.specs.Prelude.{slice_index_or}
use mathlib.Core.Option.{some, some-injective, some-ne-none}
use lib.ListN.{get_elem?}
use Rattle.rock_disk.specs.Cell.{CellState}
use Rattle.core_model.proofs.Lists.{at_index, at_length, at_or}
use Rattle.store_rule.specs.declared.store.Pass.{Pass}
use Rattle.store_rule.specs.declared.store.Store.{Store}
use Rattle.store_rule.specs.Ground.{Offers}
use Rattle.store_rule.specs.Passes.{AreNumbered, view}
use Rattle.worker_pool.specs.Courses.{At}
use Rattle.worker_shelf.specs.Shelves.{OnShelf}
use Rattle.rock_run.specs.Crews.{AreShelvesOf, MayRest}

module _ {A : Type 0} where
  pub at_place : (xs : List A) (k : ℕ) (x : A) → At xs k x → get_elem? xs k ≡ some x
  at_place xs k x h = at_index xs k x x h.0 h.1

  pub place_at : (xs : List A) (k : ℕ) (x : A) → get_elem? xs k ≡ some x → At xs k x
  place_at xs k x e = (at_length xs k x e, at_or xs k x x e)

  pub among : (xs : List A) (k : ℕ) (x : A) → At xs k x → Contains xs x
  among xs k x h = (k, h.0, h.1)

  -- a list that is as long has something at the same place
  pub beside : (xs : List A) (k : ℕ) → k < length xs → (x : A) × At xs k x
  beside [] k lt = absurd (omega (arith, lt))
  beside (x ∷ xs) zero lt = (x, (lt, refl))
  beside (x ∷ xs) (suc k) lt = let h = beside xs k (omega (arith, lt)) in (h.0, (lt, h.1.1))

module _ {A B : Type 0} (f : A → B) where
  -- what stands in a list of images is the image of what stands in the list
  pub image_of : (xs : List A) (k : ℕ) (y : B) → get_elem? (map f xs) k ≡ some y → (x : A) × (get_elem? xs k ≡ some x) × (f x ≡ y)
  image_of [] k y e = absurd (some-ne-none y (sym e))
  image_of (x ∷ xs) zero y e = (x, refl, some-injective (f x) y e)
  image_of (x ∷ xs) (suc k) y e = image_of xs k y e

  pub image_at : (xs : List A) (k : ℕ) (x : A) → get_elem? xs k ≡ some x → get_elem? (map f xs) k ≡ some (f x)
  image_at [] k x e = absurd (some-ne-none x (sym e))
  image_at (x ∷ xs) zero y e = ap (λ z. some (f z)) (some-injective x y e)
  image_at (x ∷ xs) (suc k) y e = image_at xs k y e

-- the pass of the shelf at a place has the place as its number
pub number_at : {C O St : Type 0} (s : Store C O) (passes : List (Pass C)) (stations : List St) (shelves : List (OnShelf C O St)) → AreShelvesOf s passes stations shelves → AreNumbered passes
    → (w : ℕ) (shelf : OnShelf C O St) → At shelves w shelf → (view shelf.pass).pass ≡ w
number_at {C} {O} {St} s passes stations shelves are numbered w shelf at =
    numbered w shelf.pass (subst (λ (ps : List (Pass C)). get_elem? ps w ≡ some shelf.pass) are.passes_are (image_at (λ (x : OnShelf C O St). x.pass) shelves w shelf (at_place shelves w shelf at)))

module _ {C O St : Type 0} (s : Store C O) (passes : List (Pass C)) (stations : List St) (shelves back : List (OnShelf C O St)) (are : AreShelvesOf s passes stations shelves) (count : length back ≡ length shelves)
    (kept : (w : ℕ) (before after : OnShelf C O St) → At shelves w before → At back w after → (after.store ≡ before.store) × ((view after.pass).pass ≡ (view before.pass).pass)) where
  abbrev shelf_at : (k : ℕ) → k < length back → (x : OnShelf C O St) × At shelves k x
  shelf_at k lt = beside shelves k (subst (λ (n : ℕ). k < n) count lt)

  -- each stands on the store still
  pub stores : (shelf : OnShelf C O St) → Contains back shelf → shelf.store ≡ s
  stores shelf h = let b = shelf_at h.0 h.1 in (kept h.0 b.0 shelf b.1 (h.1, h.2)).0 ∙ are.stores b.0 (among shelves h.0 b.0 b.1)

  -- their passes are in the order of their numbers
  pub numbers : AreNumbered passes → AreNumbered (map (λ shelf. shelf.pass) back)
  numbers numbered j p e = let i = image_of (λ (shelf : OnShelf C O St). shelf.pass) back j p e in let at = place_at back j i.0 i.1 in let b = shelf_at j at.0 in
      ap (λ (q : Pass C). (view q).pass) (sym i.2) ∙ (kept j b.0 i.0 b.1 at).1
      ∙ number_at s passes stations shelves are numbered j b.0 b.1

  module _ (tells : Bool) (state : C → CellState) (offers : O → Offers) where
    -- and rest
    pub rest : All (λ (shelf : OnShelf C O St). MayRest tells state offers shelf.store shelf.pass) back → All (MayRest tells state offers s) (map (λ shelf. shelf.pass) back)
    rest all = All-map (MayRest tells state offers s) (λ (shelf : OnShelf C O St). shelf.pass) back
        (λ k d lt. subst (λ (z : Store C O). MayRest tells state offers z (slice_index_or back k d).pass) (stores (slice_index_or back k d) (All-contains_itself back k d lt)) (all k d lt))
