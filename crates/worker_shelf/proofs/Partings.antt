-- A tab is left.
use Rattle.std.proofs.Common.{Bool, inl, inr, subst, sym, ◌+◌, ◌⊎◌, ℕ, add-one}
use Rattle.rock_disk.specs.Cell.{CellState}
use Rattle.store_rule.specs.declared.store.Pass.{Pass}
use Rattle.store_rule.specs.declared.store.Store.{Store}
use Rattle.store_rule.specs.Ground.{Offers}
use Rattle.script_text.specs.declared.answer.Answer.{Answer}
use Rattle.store_serve.specs.Reading.{Closes, ClosesOn}
use Rattle.store_serve.specs.Tabs.{IsReading, IsTurnedAway, IsWriting, Leaves}
use Rattle.store_serve.specs.Writing.{Drops, DropsOn}
use Rattle.worker_shelf.specs.Shelves.{LeftBelow, LeftTab}

module _ {C O : Type 0} (tells : Bool) (state : C → CellState) (offers : O → Offers) (s : Store C O) (t : ℕ) (p q : Pass C) (a : Answer) where
  -- one that reads is closed
  pub left_reader : ClosesOn tells state offers s t p a q → IsReading tells state offers s p t → Leaves tells state offers s t p q → LeftTab tells state offers s t p q
  left_reader closes reads leaves = at closes.met
    where
      at : (IsReading tells state offers s p t × Closes tells state offers s t p a q) ⊎ ((IsReading tells state offers s p t → ⊥) × IsTurnedAway p a q) → LeftTab tells state offers s t p q
      at (inl h) = record { how = inr (inl (reads, h.1.parted)); free = h.1.free; leaves = leaves; stays = h.1.stays }
      at (inr h) = absurd (h.0 reads)

  -- and what one writes is given up
  pub left_writer : DropsOn tells state offers s t p a q → IsWriting tells state offers s p t → Leaves tells state offers s t p q → LeftTab tells state offers s t p q
  left_writer drops writes leaves = at drops.met
    where
      at : (IsWriting tells state offers s p t × Drops tells state offers s t p a q) ⊎ ((IsWriting tells state offers s p t → ⊥) × IsTurnedAway p a q) → LeftTab tells state offers s t p q
      at (inl h) = record { how = inr (inr (writes, h.1.halts)); free = h.1.halts.parted.free; leaves = leaves; stays = h.1.stays }
      at (inr h) = absurd (h.0 writes)

module _ {C O : Type 0} (tells : Bool) (state : C → CellState) (offers : O → Offers) (s : Store C O) where
  -- one tab more was left
  pub left_on : (t : ℕ) (p m q : Pass C) → LeftBelow tells state offers s t p m → LeftTab tells state offers s t m q → LeftBelow tells state offers s (t + 1) p q
  left_on t p m q below last = subst (λ (n : ℕ). LeftBelow tells state offers s n p q) (sym (add-one t)) (m, below, last)
