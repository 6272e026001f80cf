-- Calls of which requests are made.
use Rattle.std.proofs.Common.{Bool, List, ap, inl, inr, [], ◌∷◌, ℕ}
use Rattle.rock_disk.specs.Cell.{CellState}
use Rattle.store_rule.specs.declared.store.Pass.{Pass}
use Rattle.store_rule.specs.declared.store.Store.{Store}
use Rattle.store_rule.specs.Ground.{Offers, anchor_for}
use Rattle.store_rule.specs.Passes.{basis, view}
use Rattle.rock_reader.specs.Reading.{Standing}
use Rattle.rock_reader.specs.declared.answer.More.{More}
use Rattle.rock_reader.specs.declared.answer.More.TheVariants.{Piece}
use Rattle.rock_writer.specs.Beginning.{begun}
use Rattle.rock_writer.specs.Entries.{Entry}
use Rattle.rock_writer.specs.declared.fault.Ended.{Ended}
use Rattle.rock_writer.specs.declared.fault.WriteFault.{WriteFault}
use Rattle.store_serve.specs.Growing.{GrowsTo}
use Rattle.store_serve.specs.Adding.{Added, Call, NotAdded, Took, taken_on}
use Rattle.store_serve.specs.Following.{GaveSome, Given, Gives, WentOn}
use Rattle.store_serve.specs.Getting.{GotAs, GotEntry, StoppedGetting}
use Rattle.store_serve.specs.Storing.{EndedWhole, GaveUpPut, NotClosed, NotEnded, NotPut, PutWhole, left_of}
use Rattle.store_serve.specs.declared.getting.Got.{Got}
use Rattle.store_serve.specs.declared.getting.Got.TheVariants.{Found, Missing}
use Rattle.store_serve.specs.declared.storing.PutFault.{PutFault}
use Rattle.store_serve.specs.declared.storing.PutFault.TheVariants.{Begin, Write}
use Rattle.store_serve.proofs.Grown.{on, same}
use Rattle.store_serve.proofs.Writers.{appended, began, finished, not_appended, not_finished, not_taken}
use Rattle.store_serve.proofs.Readers as reading

module _ {C O : Type 0} (tells : Bool) (state : C → CellState) (offers : O → Offers) (s : Store C O) (t : ℕ) where
  took : (e : Entry) (p : Pass C) (calls : List (Call C)) (q : Pass C) (total : ℕ) → Took tells state offers s t e p calls q total → GrowsTo (view p) (view q)
  took e p [] q total h = same (ap view h.0)
  took e p (c ∷ earlier) q total h = on (took e p earlier h.0 h.1 h.2) (on (appended tells state offers s t (taken_on e h.1) h.3) (same (ap view h.4)))

  module _ (e : Entry) (p q : Pass C) where
    pub added : {total : ℕ} → Added tells state offers s t e p q total → GrowsTo (view p) (view q)
    added {total} h = took e p h.calls q total h.took

    pub not_added : {fault : WriteFault} → NotAdded tells state offers s t e p q fault → GrowsTo (view p) (view q)
    not_added h = on (took e p h.calls h.middle h.total h.took) (not_appended tells state offers s t (taken_on e h.total) h.stopped)

  module _ (e : Entry) (p q : Pass C) where
    pub ended : {end : Ended} → EndedWhole tells state offers s t e p q end → GrowsTo (view p) (view q)
    ended h = on (added e p h.middle h.added) (finished tells state offers s t (taken_on e (left_of tells state offers s t e p q)) h.finished)

    not_closed : {fault : WriteFault} → NotClosed tells state offers s t e p q fault → GrowsTo (view p) (view q)
    not_closed h = on (added e p h.middle h.added) (not_finished tells state offers s t (taken_on e (left_of tells state offers s t e p q)) h.stopped)

    pub not_ended : (fault : WriteFault) → NotEnded tells state offers s t e p q fault → GrowsTo (view p) (view q)
    not_ended why (inl h) = not_added e p q h
    not_ended why (inr h) = not_closed h

  module _ (offer : ℕ) (url : List ℕ) (durable : Bool) (p q : Pass C) where
    pub put : {end : Ended} → PutWhole tells state offers s t offer url durable p q end → GrowsTo (view p) (view q)
    put h = on (began tells state offers s t h.began) (ended (begun tells state offers s t offer url durable p h.middle h.version) h.middle q h.ends)

    gave_up : {fault : WriteFault} → GaveUpPut tells state offers s t offer url durable p q fault → GrowsTo (view p) (view q)
    gave_up {fault} h = on (began tells state offers s t h.began) (not_ended (begun tells state offers s t offer url durable p h.middle h.version) h.middle q fault h.stopped)

    pub not_put : (fault : PutFault) → NotPut tells state offers s t offer url durable p q fault → GrowsTo (view p) (view q)
    not_put (Begin why) h = not_taken (basis tells state offers s) t (anchor_for (basis tells state offers s) url) (view p) why (view q) h
    not_put (Write why) h = gave_up h

  gives : (e : Standing) (p : Pass C) (calls : List (Given C)) (f : Standing) (q : Pass C) (bytes : List ℕ) → Gives tells state offers s t e p calls f q bytes → GrowsTo (view p) (view q)
  gives e p [] f q bytes h = same (ap view h.1)
  gives e p (c ∷ earlier) f q bytes h = on (gives e p earlier h.0 h.1 h.2 h.3) (on (reading.gave tells state offers s t h.0 h.1 c.before c.after c.left (Piece c.count) h.4) (same (ap view h.6)))

  pub went_on : {e : Standing} {p q : Pass C} {bytes : List ℕ} {answer : More} → WentOn tells state offers s t e p q bytes answer → GrowsTo (view p) (view q)
  went_on {e} {p} {q} {bytes} {answer} h = on (gives e p h.calls h.standing h.middle bytes h.gives) (reading.gave tells state offers s t h.standing h.middle h.before h.after q answer h.ends)

  pub gave_some : {e : Standing} {p q : Pass C} {bytes : List ℕ} → GaveSome tells state offers s t e p q bytes → GrowsTo (view p) (view q)
  gave_some {e} {p} {q} {bytes} h = gives e p h.calls h.standing q bytes h.gives

  module _ (url : List ℕ) (p q : Pass C) (bytes : List ℕ) where
    pub stopped : StoppedGetting tells state offers s t url p q bytes → GrowsTo (view p) (view q)
    stopped h = on (reading.opened (basis tells state offers s) t h.opens) (on (gave_some h.some) (reading.parted (basis tells state offers s) t (view h.read) (view q) h.parted))

    got_entry : {version : ℕ} {end : More} → GotEntry tells state offers s t url p q bytes version end → GrowsTo (view p) (view q)
    got_entry {version} {end} h = on (reading.opened (basis tells state offers s) t h.opens) (on (went_on h.went) (reading.parted (basis tells state offers s) t (view h.read) (view q) h.parted))

    pub got : (got : Got) → GotAs tells state offers s t url p q bytes got → GrowsTo (view p) (view q)
    got (Missing cause) h = reading.refused (basis tells state offers s) t url (view p) cause (view q) h.1
    got (Found version end) h = got_entry h
