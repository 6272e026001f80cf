-- What calls of which requests are made leave of a lot in a store that fits, by a tab that is at no anchor of it.
use Rattle.std.proofs.Common.{Bool, List, ap, inl, inr, length, true, ◌<◌, ◌∙◌, ◌∷◌, ◌≡◌, false, [], ℕ}
use Rattle.rock_disk.specs.Cell.{CellState}
use Rattle.core_model.specs.Tabs.{inner}
use Rattle.plain_model.specs.declared.store.Plain.{Plain}
use Rattle.store_rule.specs.declared.store.Pass.{Pass}
use Rattle.store_rule.specs.declared.store.Store.{Store}
use Rattle.store_rule.specs.Ground.{Ground, Offers, anchor_for, fits}
use Rattle.store_rule.specs.Passes.{basis, view}
use Rattle.rock_reader.specs.Reading.{Standing}
use Rattle.rock_reader.specs.declared.answer.More.{More}
use Rattle.rock_reader.specs.declared.answer.More.TheVariants.{Piece}
use Rattle.rock_writer.specs.Beginning.{begun}
use Rattle.rock_writer.specs.Entries.{Entry}
use Rattle.rock_writer.specs.declared.fault.Ended.{Ended}
use Rattle.rock_writer.specs.declared.fault.WriteFault.{WriteFault}
use Rattle.store_serve.specs.Adding.{Added, Call, NotAdded, Took, taken_on}
use Rattle.store_serve.specs.Following.{Given, Gives, WentOn}
use Rattle.store_serve.specs.Getting.{GotAs, GotEntry}
use Rattle.store_serve.specs.Storing.{EndedWhole, GaveUpPut, NotClosed, NotEnded, PutWhole, left_of}
use Rattle.store_serve.specs.declared.getting.Got.{Got}
use Rattle.store_serve.specs.declared.getting.Got.TheVariants.{Found, Missing}
use Rattle.plain_runs.specs.Elsewhere.{IsOutside}
use Rattle.plain_runs.specs.Words.{Lot}
use Rattle.plain_runs.proofs.AwayCalls.{Passes}
use Rattle.plain_runs.proofs.AwayReaders as reading
use Rattle.plain_runs.proofs.AwaySteps.{same}
use Rattle.plain_runs.proofs.AwayWriters.{Stays, appended, began, finished, not_appended, not_finished}

module _ {C O : Type 0} (tells : Bool) (state : C → CellState) (offers : O → Offers) (s : Store C O) (rename : ℕ → ℕ) (lot : Lot) (t : ℕ)
    (p : Plain)
    (eight : length p.tabs ≡ 8) (apart : lot.counter ≡ false) where
  abbrev g : Ground (List ℕ)
  g = basis tells state offers s

  abbrev Goes : Pass C → Pass C → Type 0
  Goes from to = Passes (basis tells state offers s) rename lot t p eight apart (view from) (view to)

  gives : (e : Standing) (from : Pass C) (calls : List (Given C)) (f : Standing) (to : Pass C) (bytes : List ℕ)
      → Gives tells state offers s t e from calls f to bytes → Goes from to
  gives e from [] f to bytes h = same g rename lot t p eight apart (ap view h.1)
  gives e from (c ∷ earlier) f to bytes h = λ k. same g rename lot t p eight apart (ap view h.6)
      (reading.gave tells state offers s rename lot t p eight apart h.0 h.1 c.before c.after c.left (Piece c.count) h.4
      (gives e from earlier h.0 h.1 h.2 h.3 k))

  pub went_on : {e : Standing} {from to : Pass C} {bytes : List ℕ} {answer : More} → WentOn tells state offers s t e from to bytes answer
      → Passes (basis tells state offers s) rename lot t p eight apart (view from) (view to)
  went_on {e} {from} {to} {bytes} {answer} h k = reading.gave tells state offers s rename lot t p eight apart h.standing h.middle h.before
      h.after to answer h.ends
      (gives e from h.calls h.standing h.middle bytes h.gives k)

  module _ (url : List ℕ) (out : IsOutside lot (anchor_for (basis tells state offers s) url)) (from to : Pass C) (bytes : List ℕ) where
    got_entry : {version : ℕ} {end : More} → GotEntry tells state offers s t url from to bytes version end → Goes from to
    got_entry {version} {end} h k = reading.parted g rename lot t p eight apart (view h.read) (view to) h.parted
        (went_on h.went (reading.opened g rename lot t p eight apart url out h.opens k))

    pub got : (got : Got) → GotAs tells state offers s t url from to bytes got
        → Passes (basis tells state offers s) rename lot t p eight apart (view from) (view to)
    got (Missing cause) h = reading.refused g rename lot t p eight apart url out (view from) cause (view to) h.1
    got (Found version end) h = got_entry h

  module _ (fits_is : fits (basis tells state offers s) ≡ true) (below : t < inner) where
    -- the lot stays, and the place where the next search for a victim begins
    abbrev Keeps : Pass C → Pass C → Type 0
    Keeps from to = Stays tells state offers s rename lot t p eight apart fits_is below from to

    both : (u v w : Pass C) → Keeps u v → Keeps v w → Keeps u w
    both u v w h k = (λ x. k.0 (h.0 x), k.1 ∙ h.1)

    took : (e : Entry) (from : Pass C) (calls : List (Call C)) (to : Pass C) (total : ℕ) → Took tells state offers s t e from calls to total
        → Keeps from to
    took e from [] to total h = (same g rename lot t p eight apart (ap view h.0), ap (λ (z : Pass C). z.hand) h.0)
    took e from (c ∷ earlier) to total h = both from h.0 to (took e from earlier h.0 h.1 h.2)
        (both h.0 c.after to (appended tells state offers s rename lot t p eight apart fits_is below (taken_on e h.1) h.3)
        (same g rename lot t p eight apart (ap view h.4), ap (λ (z : Pass C). z.hand) h.4))

    module _ (e : Entry) (from to : Pass C) where
      pub added : {total : ℕ} → Added tells state offers s t e from to total → Keeps from to
      added {total} h = took e from h.calls to total h.took

      pub not_added : {fault : WriteFault} → NotAdded tells state offers s t e from to fault → Keeps from to
      not_added h = both from h.middle to (took e from h.calls h.middle h.total h.took)
          (not_appended tells state offers s rename lot t p eight apart fits_is below (taken_on e h.total) h.stopped)

    module _ (e : Entry) (from to : Pass C) where
      pub ended : {end : Ended} → EndedWhole tells state offers s t e from to end → Keeps from to
      ended h = both from h.middle to (added e from h.middle h.added)
          (finished tells state offers s rename lot t p eight apart fits_is below
          (taken_on e (left_of tells state offers s t e from to)) h.finished)

      not_closed : {fault : WriteFault} → NotClosed tells state offers s t e from to fault → Keeps from to
      not_closed h = both from h.middle to (added e from h.middle h.added)
          (not_finished tells state offers s rename lot t p eight apart fits_is below
          (taken_on e (left_of tells state offers s t e from to)) h.stopped)

      pub not_ended : (fault : WriteFault) → NotEnded tells state offers s t e from to fault → Keeps from to
      not_ended why (inl h) = not_added e from to h
      not_ended why (inr h) = not_closed h

    module _ (offer : ℕ) (url : List ℕ) (out : IsOutside lot (anchor_for (basis tells state offers s) url)) (durable : Bool)
        (from to : Pass C) where
      pub put : {end : Ended} → PutWhole tells state offers s t offer url durable from to end → Keeps from to
      put h = both from h.middle to (began tells state offers s rename lot t p eight apart fits_is below out h.began, h.stays)
          (ended (begun tells state offers s t offer url durable from h.middle h.version) h.middle to h.ends)

      pub gave_up : {fault : WriteFault} → GaveUpPut tells state offers s t offer url durable from to fault → Keeps from to
      gave_up {fault} h = both from h.middle to (began tells state offers s rename lot t p eight apart fits_is below out h.began, h.stays)
          (not_ended (begun tells state offers s t offer url durable from h.middle h.version) h.middle to fault h.stopped)
