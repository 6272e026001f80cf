-- A list of two items, of which both are taken off.
use Rattle.std.proofs.Common.{All, List, [], ap, arith, length, refl, suc, zero, ◌++◌, ◌∙◌, ◌≡◌, ◌∷◌}
use Rattle.std.proofs.lemmas.List.{length_push}

module _ {X : Type 0} where
  -- where the last item of two is taken off twice, nothing is left in front
  pub none_left : (front rest all : List X) (x y : X) → all ≡ rest ++ y ∷ [] → rest ≡ front ++ x ∷ [] → length all ≡ 2 → front ≡ []
  none_left [] rest all x y last first two = refl
  none_left (z ∷ front) rest all x y last first two = absurd (let long = ap length last ∙ length_push rest y in let short = ap length first ∙ length_push (z ∷ front) x in omega (arith, long, short, two))

  -- and those two are all
  pub two_are : (front rest all : List X) (x y : X) → all ≡ rest ++ y ∷ [] → rest ≡ front ++ x ∷ [] → length all ≡ 2 → all ≡ x ∷ y ∷ []
  two_are front rest all x y last first two = last ∙ ap (λ (xs : List X). xs ++ y ∷ []) (first ∙ ap (λ (xs : List X). xs ++ x ∷ []) (none_left front rest all x y last first two))

  -- what holds of both holds of all
  pub all_two : (P : X → Type 0) (x y : X) → P x → P y → All P (x ∷ y ∷ [])
  all_two P x y first second zero d below = first
  all_two P x y first second (suc zero) d below = second
  all_two P x y first second (suc (suc k)) d below = absurd (omega arith)
