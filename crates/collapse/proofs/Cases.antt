-- What forwarding comes to, answer by answer.
use Rattle.std.proofs.Common.{Bool, List, ℕ}
use Rattle.rock_disk.specs.Cell.{CellState}
use Rattle.store_rule.specs.declared.store.Pass.{Pass}
use Rattle.store_rule.specs.declared.store.Store.{Store}
use Rattle.store_rule.specs.Ground.{Offers}
use Rattle.collapse.specs.Forwarding.{FailsToFetch, FailsToRead, FailsToSend, Fetches, FetchesPast, FindsHalted, Forwards, Hits, IfDirect, IfFault, IfFetchFault, IfFetched, IfHalted, IfHit, IfSinkFault, IfWaited, Waits}
use Rattle.collapse.specs.declared.answer.Forwarded.{Forwarded}
use Rattle.collapse.specs.declared.answer.Forwarded.TheVariants.{Direct, Fault, FetchFault, Fetched, Halted, Hit, SinkFault, Waited}

module _ {C O : Type 0} (tells : Bool) (state : C → CellState) (offers : O → Offers) (s : Store C O) (t offer : ℕ) (url : List ℕ) (p q : Pass C) (body : List ℕ) (sink_tells : Bool) (old new : List ℕ) (starts started most : ℕ) where
  pub hit : (r : Forwarded) → Forwards tells state offers s t offer url most p q body sink_tells old new starts started r → IfHit r (λ version. Hits tells state offers s t offer url most p q body sink_tells old new starts started version)
  hit (Hit version) h = h
  hit (Fetched version) h = tt
  hit (Direct why) h = tt
  hit Halted h = tt
  hit Fault h = tt
  hit (Waited looks) h = tt
  hit FetchFault h = tt
  hit SinkFault h = tt

  pub fetched : (r : Forwarded) → Forwards tells state offers s t offer url most p q body sink_tells old new starts started r → IfFetched r (λ version. Fetches tells state offers s t offer url most p q body sink_tells old new starts started version)
  fetched (Hit version) h = tt
  fetched (Fetched version) h = h
  fetched (Direct why) h = tt
  fetched Halted h = tt
  fetched Fault h = tt
  fetched (Waited looks) h = tt
  fetched FetchFault h = tt
  fetched SinkFault h = tt

  pub direct : (r : Forwarded) → Forwards tells state offers s t offer url most p q body sink_tells old new starts started r → IfDirect r (λ why. FetchesPast tells state offers s t offer url most p q body sink_tells old new starts started why)
  direct (Hit version) h = tt
  direct (Fetched version) h = tt
  direct (Direct why) h = h
  direct Halted h = tt
  direct Fault h = tt
  direct (Waited looks) h = tt
  direct FetchFault h = tt
  direct SinkFault h = tt

  pub halted : (r : Forwarded) → Forwards tells state offers s t offer url most p q body sink_tells old new starts started r → IfHalted r (FindsHalted tells state offers s t offer url most p q body sink_tells old new starts started)
  halted (Hit version) h = tt
  halted (Fetched version) h = tt
  halted (Direct why) h = tt
  halted Halted h = h
  halted Fault h = tt
  halted (Waited looks) h = tt
  halted FetchFault h = tt
  halted SinkFault h = tt

  pub fault : (r : Forwarded) → Forwards tells state offers s t offer url most p q body sink_tells old new starts started r → IfFault r (FailsToRead tells state offers s t offer url most p q body sink_tells old new starts started)
  fault (Hit version) h = tt
  fault (Fetched version) h = tt
  fault (Direct why) h = tt
  fault Halted h = tt
  fault Fault h = h
  fault (Waited looks) h = tt
  fault FetchFault h = tt
  fault SinkFault h = tt

  pub waited : (r : Forwarded) → Forwards tells state offers s t offer url most p q body sink_tells old new starts started r → IfWaited r (λ looks. Waits tells state offers s t offer url most p q body sink_tells old new starts started looks)
  waited (Hit version) h = tt
  waited (Fetched version) h = tt
  waited (Direct why) h = tt
  waited Halted h = tt
  waited Fault h = tt
  waited (Waited looks) h = h
  waited FetchFault h = tt
  waited SinkFault h = tt

  pub fetch_fault : (r : Forwarded) → Forwards tells state offers s t offer url most p q body sink_tells old new starts started r → IfFetchFault r (FailsToFetch tells state offers s t offer url most p q body sink_tells old new starts started)
  fetch_fault (Hit version) h = tt
  fetch_fault (Fetched version) h = tt
  fetch_fault (Direct why) h = tt
  fetch_fault Halted h = tt
  fetch_fault Fault h = tt
  fetch_fault (Waited looks) h = tt
  fetch_fault FetchFault h = h
  fetch_fault SinkFault h = tt

  pub sink_fault : (r : Forwarded) → Forwards tells state offers s t offer url most p q body sink_tells old new starts started r → IfSinkFault r (FailsToSend tells state offers s t offer url most p q body sink_tells old new starts started)
  sink_fault (Hit version) h = tt
  sink_fault (Fetched version) h = tt
  sink_fault (Direct why) h = tt
  sink_fault Halted h = tt
  sink_fault Fault h = tt
  sink_fault (Waited looks) h = tt
  sink_fault FetchFault h = tt
  sink_fault SinkFault h = h
