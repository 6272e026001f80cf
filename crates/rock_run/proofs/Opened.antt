-- What an opening says of the passes of a store, for their shelves and for the closing.
use Rattle.std.proofs.Common.{All, Bool, List, [], arith, length, refl, subst, suc, zero, ◌%◌, ◌<◌, ◌∷◌, ◌≡◌, ◌≤◌, ℕ, ⊎_elim}
use Rattle.std.proofs.lemmas.Bool.{cases_eq, cases_lt}
use Rattle.std.proofs.lemmas.List.Elements.{All-contains}
use Rattle.std.specs.Prelude.{slice_index_or}
use Rattle.db_layout.specs.Layout.{IsSlotSize}
use Rattle.rock_disk.specs.Cell.{CellState}
use Rattle.core_model.proofs.Lists.{at_index, at_length, at_or}
use mathlib.Core.Option.{some, some-injective}
use lib.ListN.{get_elem?}
use Rattle.store_rule.specs.declared.store.Pass.{Pass}
use Rattle.store_rule.specs.declared.store.Store.{Store}
use Rattle.store_rule.specs.Closing.{IsResting}
use Rattle.store_rule.specs.Ground.{Offers}
use Rattle.store_rule.specs.Passes.{AreNumbered, IsOf, KeepsRoom, basis, view}
use Rattle.rock_open.specs.Opening.{IsPasses}
use Rattle.rock_run.specs.Crews.{MayRest}

-- whether numbers are in their limits can be told
pub at_most : (m n : ℕ) → ((m ≤ n → ⊥) → ⊥) → m ≤ n
at_most m n h = ⊎_elim (λ (lt : n < m). absurd (h (λ z. absurd (omega (arith, z, lt))))) (λ (le : m ≤ n). le) (cases_lt n m)

same_number : (m n : ℕ) → ((m ≡ n → ⊥) → ⊥) → m ≡ n
same_number m n h = ⊎_elim (λ (e : m ≡ n). e) (λ (ne : m ≡ n → ⊥). absurd (h ne)) (cases_eq m n)

pub sized : (slot : ℕ) → ((IsSlotSize slot → ⊥) → ⊥) → IsSlotSize slot
sized slot h = record {
  from = at_most 512 slot (λ n. h (λ z. n z.from));
  to = at_most slot 32768 (λ n. h (λ z. n z.to));
  multiple = same_number (slot % 512) 0 (λ n. h (λ z. n z.multiple));
}

pub as_passes : (passes : ℕ) → ((IsPasses passes → ⊥) → ⊥) → IsPasses passes
as_passes passes h = record { from = at_most 1 passes (λ n. h (λ z. n z.from)); to = at_most passes 32 (λ n. h (λ z. n z.to)) }

module _ {C : Type 0} where
  -- where the first pass keeps room, and passes stand in the order of their numbers, the pass of number 0 keeps it
  pub first_keeps : (slots : ℕ) (ps : List (Pass C)) → KeepsRoom slots ps → AreNumbered ps → (k : ℕ) (p : Pass C) → get_elem? ps k ≡ some p → (view p).pass ≡ 0 → KeepsRoom slots (p ∷ [])
  first_keeps slots [] room numbered k p at none = absurd room
  first_keeps slots (q ∷ ps) room numbered zero p at none = subst (λ (x : Pass C). KeepsRoom slots (x ∷ [])) (some-injective q p at) room
  first_keeps slots (q ∷ ps) room numbered (suc k) p at none = absurd (omega (arith, numbered (suc k) p at, none))

  -- and where the pass of number 0 keeps it, the first one does
  pub keeps_first : (slots : ℕ) (ps : List (Pass C)) → 0 < length ps → AreNumbered ps → ((k : ℕ) (p : Pass C) → get_elem? ps k ≡ some p → (view p).pass ≡ 0 → KeepsRoom slots (p ∷ [])) → KeepsRoom slots ps
  keeps_first slots [] lt numbered keeps = absurd (omega (arith, lt))
  keeps_first slots (q ∷ ps) lt numbered keeps = keeps 0 q refl (numbered 0 q refl)

module _ {C O : Type 0} (tells : Bool) (state : C → CellState) (offers : O → Offers) (s : Store C O) (ps : List (Pass C)) where
  -- passes that rest may be put on shelves
  pub may_rest : AreNumbered ps → KeepsRoom (basis tells state offers s).setting.slots ps → All (IsOf tells state offers s) ps → All IsResting ps → All (MayRest tells state offers s) ps
  may_rest numbered room own rest k d lt = record {
    own = own k d lt;
    rest = rest k d lt;
    cells = λ none. first_keeps (basis tells state offers s).setting.slots ps room numbered k (slice_index_or ps k d) (at_index ps k (slice_index_or ps k d) d lt refl) none;
  }

  pub own_all : All (MayRest tells state offers s) ps → All (IsOf tells state offers s) ps
  own_all all k d lt = (all k d lt).own

  pub rest_all : All (MayRest tells state offers s) ps → All IsResting ps
  rest_all all k d lt = (all k d lt).rest

  pub room_all : 0 < length ps → AreNumbered ps → All (MayRest tells state offers s) ps → KeepsRoom (basis tells state offers s).setting.slots ps
  room_all lt numbered all = keeps_first (basis tells state offers s).setting.slots ps lt numbered (λ k p at none. (All-contains (MayRest tells state offers s) ps p all (k, at_length ps k p at, at_or ps k p p at)).cells none)
