-- What calls of which requests are made draw and do.
use Rattle.std.proofs.Common.{Bool, Contains, List, None, Some, [], ap, inl, inr, subst, sym, ◌≡◌, ◌∷◌, ℕ}
use Rattle.rock_disk.specs.Cell.{CellState}
use Rattle.core_model.specs.declared.view.Deed.{Deed}
use Rattle.core_model.specs.declared.view.Sight.{Sight}
use Rattle.core_model.specs.declared.view.View.{View}
use Rattle.store_rule.specs.declared.store.Pass.{Pass}
use Rattle.store_rule.specs.declared.store.Store.{Store}
use Rattle.store_rule.specs.Ground.{Offers, anchor_for}
use Rattle.store_rule.specs.Passes.{basis, view}
use Rattle.rock_reader.specs.Reading.{Standing}
use Rattle.rock_reader.specs.declared.answer.More.{More}
use Rattle.rock_reader.specs.declared.answer.More.TheVariants.{Piece}
use Rattle.rock_writer.specs.Beginning.{begun}
use Rattle.rock_writer.specs.Entries.{Entry}
use Rattle.rock_writer.specs.Finishing.{version_of}
use Rattle.rock_writer.specs.declared.fault.Ended.{Ended}
use Rattle.rock_writer.specs.declared.fault.WriteFault.{WriteFault}
use Rattle.store_serve.specs.Growing.{GrowsTo}
use Rattle.store_serve.specs.Adding.{Added, Call, NotAdded, Took, taken_on}
use Rattle.store_serve.specs.Following.{GaveSome, Given, Gives, WentOn}
use Rattle.store_serve.specs.Getting.{GotAs, GotEntry, StoppedGetting}
use Rattle.store_serve.specs.Storing.{EndedWhole, GaveUpPut, NotClosed, NotEnded, NotPut, PutWhole, left_of}
use Rattle.store_serve.specs.declared.getting.Got.{Got}
use Rattle.store_serve.specs.declared.getting.Got.TheVariants.{Found, Missing}
use Rattle.store_serve.specs.declared.storing.PutFault.{PutFault}
use Rattle.store_serve.specs.declared.storing.PutFault.TheVariants.{Begin, Write}
use Rattle.store_serve.specs.Acting.{Acted}
use Rattle.store_serve.proofs.Grown as grown
use Rattle.store_serve.specs.Deeds.{Naming, name_of, OfEnding, OfGivingUp, OfPublishing, OfPutting, OfPuttingInVain, OfVisiting}
use Rattle.store_serve.specs.Refusing.{NotStoredBy}
use Rattle.store_serve.proofs.AddingUp.{on, same, wider}
use Rattle.store_serve.proofs.EntryTabs.{HasEntry}
use Rattle.store_serve.proofs.WriterDeeds.{publishing_on, appended, began, entry_of, finished, not_appended, not_finished, not_taken}
use Rattle.store_serve.proofs.ReaderDeeds as reading

module _ {C O : Type 0} (tells : Bool) (state : C → CellState) (offers : O → Offers) (s : Store C O) (t : ℕ) where
  -- calls that took bytes, behind which the tab writes the entry still
  record TookSome (e : Entry) (p q : Pass C) : Type 0 where
    acted : Acted None (OfPublishing (basis tells state offers s) (name_of (basis tells state offers s) e) (view q).seen) (view p) (view q)
    entry : HasEntry t (name_of (basis tells state offers s) e) (view q)

  -- what was done up to an earlier pass, as a later one knows of it
  later : {v : View (List ℕ)} (e : Entry) (m q : Pass C) → Acted None (OfPublishing (basis tells state offers s) (name_of (basis tells state offers s) e) (view m).seen) v (view m) → ((x : Sight) → Contains (view m).seen x → Contains (view q).seen x)
      → Acted None (OfPublishing (basis tells state offers s) (name_of (basis tells state offers s) e) (view q).seen) v (view m)
  later e m q h f = wider (λ d x. publishing_on (basis tells state offers s) (name_of (basis tells state offers s) e) (view m).seen (view q).seen d f x) h

  same_seen : {p q : Pass C} → q ≡ p → GrowsTo (view p) (view q)
  same_seen e = grown.same (ap view e)

  took : (e : Entry) (p : Pass C) (calls : List (Call C)) (q : Pass C) (total : ℕ) → HasEntry t (name_of (basis tells state offers s) e) (view p) → Took tells state offers s t e p calls q total → TookSome e p q
  took e p [] q total h k = record { acted = same (ap view k.0); entry = Rattle.store_serve.proofs.EntryTabs.same_view h (ap view k.0) }
  took e p (c ∷ earlier) q total h k = let first = took e p earlier k.0 k.1 h k.2 in record {
    acted = on (later e k.0 q first.acted (λ x c. (same_seen k.4).seen x ((appended tells state offers s t (taken_on e k.1) first.entry k.3).keeps.seen x c)))
        (on (later e c.after q (appended tells state offers s t (taken_on e k.1) first.entry k.3) (same_seen k.4).seen) (same (ap view k.4)));
    entry = Rattle.store_serve.proofs.EntryTabs.same_view (entry_of tells state offers s t (taken_on (taken_on e k.1) c.count) k.3.writes) (ap view k.4);
  }

  module _ (e : Entry) (p q : Pass C) where
    took_all : {total : ℕ} → HasEntry t (name_of (basis tells state offers s) e) (view p) → Added tells state offers s t e p q total → TookSome e p q
    took_all {total} h k = took e p k.calls q total h k.took

    pub added : {total : ℕ} → HasEntry t (name_of (basis tells state offers s) e) (view p) → Added tells state offers s t e p q total → Acted None (OfPublishing (basis tells state offers s) (name_of (basis tells state offers s) e) (view q).seen) (view p) (view q)
    added h k = (took_all h k).acted

    pub not_added : {fault : WriteFault} → HasEntry t (name_of (basis tells state offers s) e) (view p) → NotAdded tells state offers s t e p q fault → Acted None (OfGivingUp (basis tells state offers s) (name_of (basis tells state offers s) e) (view q).seen) (view p) (view q)
    not_added h k = let first = took e p k.calls k.middle k.total h k.took in
        let last = not_appended tells state offers s t (taken_on e k.total) first.entry k.stopped in
        on (wider (λ d x. inl x) (later e k.middle q first.acted last.keeps.seen)) (wider (λ d x. inr x) last)

  module _ (e : Entry) (p q : Pass C) where
    abbrev left : ℕ
    left = left_of tells state offers s t e p q

    pub ended : {end : Ended} → HasEntry t (name_of (basis tells state offers s) e) (view p) → EndedWhole tells state offers s t e p q end → Acted None (OfEnding (basis tells state offers s) (name_of (basis tells state offers s) e) (view q).seen end) (view p) (view q)
    ended h k = let first = took_all e p k.middle h k.added in
        let last = finished tells state offers s t (taken_on e left) first.entry k.finished in
        on (wider (λ d x. inl x) (later e k.middle q first.acted last.keeps.seen)) (wider (λ d x. inr x) last)

    not_closed : {fault : WriteFault} → HasEntry t (name_of (basis tells state offers s) e) (view p) → NotClosed tells state offers s t e p q fault → Acted None (OfGivingUp (basis tells state offers s) (name_of (basis tells state offers s) e) (view q).seen) (view p) (view q)
    not_closed h k = let first = took_all e p k.middle h k.added in
        let last = not_finished tells state offers s t (taken_on e left) first.entry k.stopped in
        on (wider (λ d x. inl x) (later e k.middle q first.acted last.keeps.seen)) (wider (λ d x. inr x) last)

    pub not_ended : (fault : WriteFault) → HasEntry t (name_of (basis tells state offers s) e) (view p) → NotEnded tells state offers s t e p q fault → Acted None (OfGivingUp (basis tells state offers s) (name_of (basis tells state offers s) e) (view q).seen) (view p) (view q)
    not_ended why h (inl k) = not_added e p q h k
    not_ended why h (inr k) = not_closed h k

  module _ (offer : ℕ) (url : List ℕ) (durable : Bool) (p q : Pass C) where
    -- the entry that it would be of, by its version
    abbrev pub name_for : ℕ → Naming
    name_for version = name_of (basis tells state offers s) (begun tells state offers s t offer url durable p q version)

    pub put : {end : Ended} → PutWhole tells state offers s t offer url durable p q end → Acted (Some (version_of end)) (OfPutting (basis tells state offers s) (name_for (version_of end)) (view q).seen end) (view p) (view q)
    put {end} h = let e = begun tells state offers s t offer url durable p h.middle h.version in
        subst (λ (n : ℕ). Acted (Some n) (OfPutting (basis tells state offers s) (name_for n) (view q).seen end) (view p) (view q)) (sym h.ends.finished.version)
        (on (wider (λ d x. inl x) (began tells state offers s t h.began)) (wider (λ d x. inr x) (ended e h.middle q (entry_of tells state offers s t e h.began.writes) h.ends)))

    pub gave_up : {fault : WriteFault} (h : GaveUpPut tells state offers s t offer url durable p q fault) → Acted (Some h.version) (OfPuttingInVain (basis tells state offers s) (name_for h.version) (view q).seen) (view p) (view q)
    gave_up {fault} h = let e = begun tells state offers s t offer url durable p h.middle h.version in
        on (wider (λ d x. inl x) (began tells state offers s t h.began)) (wider (λ d x. inr x) (not_ended e h.middle q fault (entry_of tells state offers s t e h.began.writes) h.stopped))

    pub not_put : (fault : PutFault) → NotPut tells state offers s t offer url durable p q fault → NotStoredBy (view p) (view q) (basis tells state offers s) name_for fault
    not_put (Begin why) h = not_taken (basis tells state offers s) t (anchor_for (basis tells state offers s) url) (view p) why (view q) h
    not_put (Write why) h = (h.version, gave_up h)

  gives : {P : Deed → Type 0} (e : Standing) (p : Pass C) (calls : List (Given C)) (f : Standing) (q : Pass C) (bytes : List ℕ) → Gives tells state offers s t e p calls f q bytes → Acted None P (view p) (view q)
  gives e p [] f q bytes h = same (ap view h.1)
  gives e p (c ∷ earlier) f q bytes h = on (on (gives e p earlier h.0 h.1 h.2 h.3) (reading.gave tells state offers s t h.0 h.1 c.before c.after c.left (Piece c.count) h.4)) (same (ap view h.6))

  pub went_on : {P : Deed → Type 0} {e : Standing} {p q : Pass C} {bytes : List ℕ} {answer : More} → WentOn tells state offers s t e p q bytes answer → Acted None P (view p) (view q)
  went_on {P} {e} {p} {q} {bytes} {answer} h = on (gives e p h.calls h.standing h.middle bytes h.gives) (reading.gave tells state offers s t h.standing h.middle h.before h.after q answer h.ends)

  pub gave_some : {P : Deed → Type 0} {e : Standing} {p q : Pass C} {bytes : List ℕ} → GaveSome tells state offers s t e p q bytes → Acted None P (view p) (view q)
  gave_some {P} {e} {p} {q} {bytes} h = gives e p h.calls h.standing q bytes h.gives

  module _ (url : List ℕ) (p q : Pass C) (bytes : List ℕ) where
    pub stopped : StoppedGetting tells state offers s t url p q bytes → Acted None (OfVisiting (anchor_for (basis tells state offers s) url)) (view p) (view q)
    stopped h = on (on (wider (λ d x. inl x) (reading.opened (basis tells state offers s) t h.opens)) (gave_some h.some)) (wider (λ d x. inr x) (reading.parted (basis tells state offers s) t (view h.read) (view q) h.parted))

    got_entry : {version : ℕ} {end : More} → GotEntry tells state offers s t url p q bytes version end → Acted None (OfVisiting (anchor_for (basis tells state offers s) url)) (view p) (view q)
    got_entry {version} {end} h = on (on (wider (λ d x. inl x) (reading.opened (basis tells state offers s) t h.opens)) (went_on h.went)) (wider (λ d x. inr x) (reading.parted (basis tells state offers s) t (view h.read) (view q) h.parted))

    pub got : (got : Got) → GotAs tells state offers s t url p q bytes got → Acted None (OfVisiting (anchor_for (basis tells state offers s) url)) (view p) (view q)
    got (Missing cause) h = reading.refused (basis tells state offers s) t url (view p) cause (view q) h.1
    got (Found version end) h = got_entry h
