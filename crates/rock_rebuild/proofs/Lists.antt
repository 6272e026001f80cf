-- Lists of slots that grow at their end.
use Rattle.std.proofs.Common.{◌≡◌, ℕ, Bool, true, false, List, [], ◌∷◌, ◌++◌, refl, ap, sym, ◌∙◌}
use Rattle.std.specs.Prelude.{nat_eq, ◌||◌}
use Rattle.std.specs.List.{IsDistinct, AllByRecursion, list_any}
use Rattle.std.proofs.lemmas.Bool.{false≢true}
use Rattle.rebuild_model.specs.Entry.{AllButLast, OfLast}

-- whether slot s is one of these
abbrev pub is_among : ℕ → List ℕ → Bool
is_among s slots = list_any (λ x. nat_eq x s) slots

pub parts : (a b : Bool) → (a || b) ≡ false → (a ≡ false) × (b ≡ false)
parts false b e = (refl, e)
parts true b e = absurd (false≢true (sym e))

pub push_all : (P : ℕ → Type 0) (xs : List ℕ) (y : ℕ) → AllByRecursion P xs → P y → AllByRecursion P (xs ++ y ∷ [])
push_all P [] y all here = (here, tt)
push_all P (x ∷ xs) y all here = (all.0, push_all P xs y all.1 here)

pub push_once : (xs : List ℕ) (y : ℕ) → IsDistinct nat_eq xs → is_among y xs ≡ false → IsDistinct nat_eq (xs ++ y ∷ [])
unfolding IsDistinct
push_once [] y once new = (tt, tt)
push_once (x ∷ xs) y once new =
    let both = parts (nat_eq x y) (is_among y xs) new in
    (push_all (λ w. nat_eq x w ≡ false) xs y once.0 both.0, push_once xs y once.1 both.1)

pub all_at : (P : ℕ → Type 0) (xs zs : List ℕ) (y : ℕ) → AllByRecursion P (xs ++ y ∷ zs) → P y
all_at P [] zs y all = all.0
all_at P (x ∷ xs) zs y all = all_at P xs zs y all.1

-- a slot that came before does not come again
pub came_once : (xs zs : List ℕ) (y : ℕ) → IsDistinct nat_eq (xs ++ y ∷ zs) → is_among y xs ≡ false
unfolding IsDistinct
came_once [] zs y once = refl
came_once (x ∷ xs) zs y once =
    let apart : nat_eq x y ≡ false = all_at (λ w. nat_eq x w ≡ false) xs zs y once.0 in
    ap (λ b. b || is_among y xs) apart ∙ came_once xs zs y once.1

-- one that is among more slots was among them, or is the new one
pub among_push : (xs : List ℕ) (y s : ℕ) → is_among s (xs ++ y ∷ []) ≡ (is_among s xs || nat_eq y s)
among_push [] y s = elim (nat_eq y s) as (λ b. (b || false) ≡ (false || b)) [ true ↦ refl | false ↦ refl ]
among_push (x ∷ xs) y s = elim (nat_eq x s) as (λ b. (b || is_among s (xs ++ y ∷ [])) ≡ ((b || is_among s xs) || nat_eq y s)) [ true ↦ refl | false ↦ among_push xs y s ]

pub all_but_last : (P : ℕ → Type 0) (xs : List ℕ) (y : ℕ) → AllByRecursion P xs → AllButLast P (xs ++ y ∷ [])
all_but_last P [] y all = tt
all_but_last P (x ∷ []) y all = (all.0, tt)
all_but_last P (x ∷ z ∷ xs) y all = (all.0, all_but_last P (z ∷ xs) y all.1)

-- one with another behind it is not the last
pub not_last : (P : ℕ → Type 0) (xs zs : List ℕ) (y z : ℕ) → AllButLast P (xs ++ y ∷ z ∷ zs) → P y
not_last P [] zs y z all = all.0
not_last P (x ∷ []) zs y z all = all.1.0
not_last P (x ∷ w ∷ xs) zs y z all = not_last P (w ∷ xs) zs y z all.1

pub of_last : (P : ℕ → Type 0) (xs : List ℕ) (y : ℕ) → P y → OfLast P (xs ++ y ∷ [])
of_last P [] y is = is
of_last P (x ∷ []) y is = is
of_last P (x ∷ z ∷ xs) y is = of_last P (z ∷ xs) y is

pub from_last : (P : ℕ → Type 0) (xs : List ℕ) (y : ℕ) → OfLast P (xs ++ y ∷ []) → P y
from_last P [] y is = is
from_last P (x ∷ []) y is = is
from_last P (x ∷ z ∷ xs) y is = from_last P (z ∷ xs) y is
