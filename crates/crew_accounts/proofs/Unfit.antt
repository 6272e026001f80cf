-- A store in which no slot was to be had does not fit.
use Rattle.std.proofs.Common.{Bool, false, inl, inr, ◌≡◌, ℕ}
use Rattle.rock_disk.specs.Cell.{CellState}
use Rattle.store_rule.specs.declared.store.Pass.{Pass}
use Rattle.store_rule.specs.declared.store.Store.{Store}
use Rattle.store_rule.specs.Ground.{Offers, fits}
use Rattle.store_rule.specs.Passes.{basis}
use Rattle.rock_writer.specs.Entries.{Entry}
use Rattle.rock_writer.specs.declared.fault.WriteFault.{WriteFault}
use Rattle.rock_writer.specs.declared.fault.WriteFault.TheVariants.{Full}
use Rattle.store_serve.specs.Storing.{NotEnded}

module _ {C O : Type 0} (tells : Bool) (state : C → CellState) (offers : O → Offers) (s : Store C O) (t : ℕ) where
  pub not_ended_unfit : (e : Entry) (p q : Pass C) (cause : WriteFault) → NotEnded tells state offers s t e p q cause → cause ≡ Full → fits (basis tells state offers s) ≡ false
  not_ended_unfit e p q cause (inl k) = k.stopped.unfit
  not_ended_unfit e p q cause (inr k) = k.stopped.unfit
