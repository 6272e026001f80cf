-- Workers of a crew, each with the view at which its lines ended.
use Rattle.std.proofs.Common.{List, [], ap, arith, length, refl, suc, sum_by, sym, zero, ◌∙◌, ◌∷◌, ◌≡◌, ℕ}
use Rattle.std.proofs.lemmas.List.Sums.{sum_by-cons}
use mathlib.Core.Option.{some, some-injective, some-ne-none}
use lib.ListN.{get_elem?}
use Rattle.core_model.specs.declared.view.View.{View}
use Rattle.line_account.specs.Closing.{Worker}

pub record Ended (X : Type 0) : Type 0 where
  pub view : View X
  pub worker : Worker

abbrev pub with_view : {X : Type 0} → View X → Worker → Ended X
with_view v w = record { view = v; worker = w }

abbrev pub ended : {X : Type 0} → (ℕ → View X) → List Worker → List (Ended X)
ended view_at [] = []
ended view_at (w ∷ crew) = with_view (view_at 0) w ∷ ended (λ j. view_at (suc j)) crew

-- a worker of the crew stands there with its view
pub ended_at : {X : Type 0} → (view_at : ℕ → View X) (crew : List Worker) (j : ℕ) (w : Worker) → get_elem? crew j ≡ some w → get_elem? (ended view_at crew) j ≡ some (with_view (view_at j) w)
ended_at view_at [] j w e = absurd (some-ne-none w (sym e))
ended_at view_at (u ∷ crew) zero w e = ap (λ (z : Worker). some (with_view (view_at 0) z)) (some-injective u w e)
ended_at view_at (u ∷ crew) (suc j) w e = ended_at (λ n. view_at (suc n)) crew j w e

-- and what stands there is one
pub record IsEnded {X : Type 0} (view_at : ℕ → View X) (crew : List Worker) (j : ℕ) (x : Ended X) : Type 0 where
  pub at : get_elem? crew j ≡ some x.worker
  pub is : with_view (view_at j) x.worker ≡ x

pub is_ended : {X : Type 0} → (view_at : ℕ → View X) (crew : List Worker) (j : ℕ) (x : Ended X) → get_elem? (ended view_at crew) j ≡ some x → IsEnded view_at crew j x
is_ended view_at [] j x e = absurd (some-ne-none x (sym e))
is_ended {X} view_at (w ∷ crew) zero x e =
    let same = some-injective (with_view (view_at 0) w) x e in
    record { at = ap (λ (z : Ended X). some z.worker) same; is = ap (λ (z : Worker). with_view (view_at 0) z) (sym (ap Ended.worker same)) ∙ same }
is_ended view_at (w ∷ crew) (suc j) x e = let h = is_ended (λ n. view_at (suc n)) crew j x e in record { at = h.at; is = h.is }

pub ended_count : {X : Type 0} → (view_at : ℕ → View X) (crew : List Worker) → length (ended view_at crew) ≡ length crew
ended_count view_at [] = refl
ended_count view_at (w ∷ crew) = let h = ended_count (λ n. view_at (suc n)) crew in omega arith

-- what is counted over the workers
pub ended_sum : {X : Type 0} → (g : Worker → ℕ) (view_at : ℕ → View X) (crew : List Worker) → sum_by (λ (x : Ended X). g x.worker) (ended view_at crew) ≡ sum_by g crew
ended_sum g view_at [] = refl
ended_sum {X} g view_at (w ∷ crew) =
    let a = sum_by-cons (λ (x : Ended X). g x.worker) (with_view (view_at 0) w) (ended (λ n. view_at (suc n)) crew) in
    let b = sum_by-cons g w crew in
    let h = ended_sum g (λ n. view_at (suc n)) crew in
    omega arith
