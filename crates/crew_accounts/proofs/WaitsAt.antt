-- A tab that waits behind a slot was given some, and of a new entry not the last one.
use Rattle.std.proofs.Common.{Bool, Contains, List, arith, subst, sym, ◌<◌, ℕ}
use Rattle.lock_word.specs.declared.epoch.Epoch.{Epoch}
use Rattle.rock_disk.specs.Cell.{CellState}
use Rattle.entry_cut.specs.Content.{count}
use Rattle.core_model.specs.Anchors.{opening_counter}
use Rattle.core_model.specs.declared.moves.Side.TheVariants.{Offer}
use Rattle.core_model.specs.declared.view.Sight.TheVariants.{Named}
use Rattle.store_rule.specs.declared.store.Pass.{Pass}
use Rattle.store_rule.specs.declared.store.Store.{Store}
use Rattle.store_rule.specs.Ground.{Offers, cut_of}
use Rattle.store_rule.specs.Passes.{basis, view}
use Rattle.store_rule.proofs.Passing.{pass_of}
use Rattle.rock_reader.specs.Reading.{ReadsAs, Standing, Waits}
use Rattle.crew_accounts.proofs.Waiting.{not_last, some_place}

module _ {C O : Type 0} (tells : Bool) (state : C → CellState) (offers : O → Offers) (s : Store C O) (t : ℕ) (m q : Pass C) (f : Standing) (before after : List ℕ) (epoch : Epoch) (reads : ReadsAs tells state offers s m t f) (k : Waits tells state offers s t m f before after q epoch) where
  pub waits_some : 0 < f.place
  waits_some = subst (λ (n : ℕ). 0 < n) reads.place_is (some_place (basis tells state offers s) t (view m) (view q) epoch (pass_of m) (let b = reads.below in omega arith) reads.reader reads.is k.found)

  names_offer : Contains (view m).seen (Named reads.reader.anchor reads.reader.version Offer f.offer)
  names_offer = subst (λ (a : ℕ). Contains (view m).seen (Named a reads.reader.version Offer f.offer)) (sym reads.anchor_is)
      (subst (λ (n : ℕ). Contains (view m).seen (Named f.anchor n Offer f.offer)) (sym reads.version_is) reads.offer_seen)

  pub waits_more : opening_counter (basis tells state offers s).setting < f.version → f.place < count (cut_of (basis tells state offers s) f.offer 0 0)
  waits_more high = subst (λ (n : ℕ). n < count (cut_of (basis tells state offers s) f.offer 0 0)) reads.place_is
      (not_last (basis tells state offers s) t (view m) (view q) epoch (pass_of m) (let b = reads.below in omega arith) reads.reader reads.is k.found f.offer
      (subst (λ (n : ℕ). opening_counter (basis tells state offers s).setting < n) (sym reads.version_is) high) names_offer)
