-- Lists read by `get_elem?`, and written.
use Rattle.std.proofs.Common.{◌≡◌, ℕ, ◌<◌, zero, suc, List, [], ◌∷◌, length, replicate, get_or, set, sym, refl, ap, ◌∙◌, Some, arith}
use Rattle.std.specs.Prelude.{slice_get}
use Rattle.std.proofs.lemmas.Option.{get_or_from_slice_get, slice_get_within}
use mathlib.Core.Option.{some, some-injective, some-ne-none}
use lib.ListN.{get_elem?}

module _ {X : Type 0} where
  pub at_length : (xs : List X) (i : ℕ) (x : X) → get_elem? xs i ≡ some x → i < length xs
  at_length [] i x e = absurd (some-ne-none x (sym e))
  at_length (y ∷ ys) zero x e = omega arith
  at_length (y ∷ ys) (suc i) x e = let h = at_length ys i x e in omega arith

  pub at_or : (xs : List X) (i : ℕ) (x d : X) → get_elem? xs i ≡ some x → get_or xs i d ≡ x
  at_or [] i x d e = absurd (some-ne-none x (sym e))
  at_or (y ∷ ys) zero x d e = some-injective y x e
  at_or (y ∷ ys) (suc i) x d e = at_or ys i x d e

  pub at_index : (xs : List X) (i : ℕ) (x d : X) → i < length xs → get_or xs i d ≡ x → get_elem? xs i ≡ some x
  at_index [] i x d h e = absurd (omega arith)
  at_index (y ∷ ys) zero x d h e = ap some e
  at_index (y ∷ ys) (suc i) x d h e = at_index ys i x d (omega arith) e

  -- what stands in a place does not depend on the default
  pub same_default : (xs : List X) (i : ℕ) (d e : X) → i < length xs → get_or xs i d ≡ get_or xs i e
  same_default [] i d e h = absurd (omega arith)
  same_default (y ∷ ys) zero d e h = refl
  same_default (y ∷ ys) (suc i) d e h = same_default ys i d e (omega arith)

  pub set_twice : (xs : List X) (i : ℕ) (x y : X) → set (set xs i x) i y ≡ set xs i y
  set_twice [] i x y = refl
  set_twice (z ∷ zs) zero x y = refl
  set_twice (z ∷ zs) (suc i) x y = ap (λ (l : List X). z ∷ l) (set_twice zs i x y)

  pub at_slice : (xs : List X) (i : ℕ) (x : X) → slice_get xs i ≡ Some x → get_elem? xs i ≡ some x
  at_slice xs i x e = at_index xs i x x (slice_get_within xs i x e) (get_or_from_slice_get xs i x x e)

  pub slice_at : (xs : List X) (i : ℕ) (x y : X) → slice_get xs i ≡ Some x → get_elem? xs i ≡ some y → x ≡ y
  slice_at xs i x y e at = some-injective x y (sym (at_slice xs i x e) ∙ at)

  -- what is read of a list that is still this one
  pub still_at : (xs ys : List X) (i : ℕ) (x y : X) → y ≡ get_or xs i y → xs ≡ ys → get_elem? ys i ≡ some x → y ≡ x
  still_at xs ys i x y read same at = read ∙ ap (λ (l : List X). get_or l i y) same ∙ at_or ys i x y at

-- of a list that has one item throughout
pub same_at : {X : Type 0} → (n i : ℕ) (x : X) → get_or (replicate n x) i x ≡ x
same_at zero i x = refl
same_at (suc n) zero x = refl
same_at (suc n) (suc i) x = same_at n i x
