-- What begin of one file answered, as the call over all files says it.
use Rattle.std.proofs.Common.{Bool, List, subst, ◌≡◌, ℕ}
use Rattle.rock_disk.specs.Cell.{CellState}
use Rattle.rock_writer.specs.Beginning.{Began, begun}
use Rattle.rock_writer.specs.Durable.{LoggedSoFar}
use Rattle.rock_writer.specs.Passes.{FollowsWriting}
use Rattle.store_rule.specs.declared.store.Pass.{Pass}
use Rattle.store_rule.specs.declared.store.Store.{Store}
use Rattle.store_rule.specs.Ground.{Offers}
use Rattle.store_rule.specs.Passes.{basis, view}
use Rattle.store_rule.specs.Quiet.{Quiet}
use Rattle.dir_set.specs.Beginning.{BegunBy, offer_in}

module _ {C O : Type 0} (tells : Bool) (state : C → CellState) (offers : O → Offers) (t line : ℕ) (url : List ℕ) (is_durable : Bool) (s : Store C O) (p q : Pass C) where
  pub begun_by : (offer version : ℕ) → offer ≡ offer_in tells state offers s line → Began tells state offers s t offer url is_durable p q version
      → LoggedSoFar (basis tells state offers s) (begun tells state offers s t offer url is_durable p q version) (view q) → q.hand ≡ p.hand → FollowsWriting tells state offers s t p q → Quiet (view p) (view q)
      → BegunBy tells state offers t line url is_durable s p q version
  begun_by offer version e began logged hand follows quiet = record {
    began = subst (λ (n : ℕ). Began tells state offers s t n url is_durable p q version) e began;
    logged = subst (λ (n : ℕ). LoggedSoFar (basis tells state offers s) (begun tells state offers s t n url is_durable p q version) (view q)) e logged;
    hand = hand;
    follows = follows;
    quiet = quiet;
  }
