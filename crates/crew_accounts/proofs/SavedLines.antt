-- What a worker knows at a line it knows at its end.
use Rattle.std.proofs.Common.{Bool, Contains, Err, List, Ok, Result, [], ap, inl, inr, refl, subst, suc, sym, true, zero, ◌+◌, ◌∙◌, ◌∷◌, ◌≡◌, ◌⊎◌, ℕ}
use Rattle.std.specs.Result.{IfOk}
use Rattle.std.proofs.lemmas.List.Elements.{Contains-append_right}
use Rattle.lock_word.specs.declared.epoch.Epoch.{Epoch}
use Rattle.rock_disk.specs.Cell.{CellState}
use Rattle.script_text.specs.declared.answer.Answer.{Answer}
use Rattle.script_text.specs.declared.answer.Answer.TheVariants as answer
use Rattle.script_text.specs.declared.body.Body.{Body}
use Rattle.script_text.specs.declared.line.Line.{Line}
use Rattle.script_text.specs.declared.request.Request.{Request}
use Rattle.script_text.specs.declared.request.Request.TheVariants.{Await, Mark, Save, Wipe}
use Rattle.core_model.specs.declared.view.Sight.{Sight}
use Rattle.core_model.specs.declared.view.Sight.TheVariants.{Logged, Named, Published, Wiped as WipedSight}
use Rattle.core_model.specs.declared.moves.Side.TheVariants.{Offer}
use Rattle.core_model.specs.declared.view.View.{View}
use Rattle.core_model.proofs.Lists.{cons_contains, contains_none}
use Rattle.store_rule.specs.declared.store.Pass.{Pass}
use Rattle.store_rule.specs.declared.store.Store.{Store}
use Rattle.store_rule.specs.Ground.{Ground, Offers, anchor_for}
use Rattle.store_rule.specs.Passes.{basis, view}
use Rattle.worker_pool.specs.Courses.{IsServed, Linked, Stage}
use Rattle.worker_pool.specs.Running.{Account}
use Rattle.rock_writer.specs.Durable.{ClosedDurably, LoggedWhole, pieces_in}
use Rattle.rock_writer.specs.Entries.{Entry}
use Rattle.rock_writer.specs.declared.fault.BeginFault.TheVariants.{Busy, LongUrl, Spent}
use Rattle.rock_writer.specs.declared.fault.Ended.{Ended}
use Rattle.rock_writer.specs.declared.fault.Ended.TheVariants.{Doomed, Stored}
use Rattle.rock_writer.specs.declared.fault.WriteFault.TheVariants.{Fault, Full, Large}
use Rattle.purge_entry.specs.Wiping.{WipedTells}
use Rattle.purge_entry.specs.declared.wiping.Wiped.{Wiped}
use Rattle.purge_entry.specs.declared.wiping.Wiped.TheVariants.{Gone, Later}
use Rattle.purge_entry.specs.declared.wiping.WipeFault.{WipeFault}
use Rattle.purge_entry.specs.declared.wiping.WipeFault.TheVariants.{NoEntry}
use Rattle.store_serve.specs.Storing.{put_as}
use Rattle.store_serve.specs.declared.storing.PutFault.{PutFault}
use Rattle.store_serve.specs.declared.storing.PutFault.TheVariants as put
use Rattle.store_serve.specs.Answers.{answer_to_put, answer_to_wipe}
use Rattle.store_serve.specs.Serving.{MayAsk, ServesRequest, offer_of}
use Rattle.store_serve.specs.Tabs.{IsOffered}
use Rattle.store_serve.specs.Whole.{Puts, Wipes, whole_tab}
use Rattle.worker_shelf.specs.Shelves.{LeftBelow, OnShelf, Went}
use Rattle.worker_shelf.specs.Playing.{IsPlayed, IsStep, StepOn}
use Rattle.crew_accounts.specs.Saved.{HasWiped, saved_as}
use Rattle.crew_accounts.proofs.CrewLists.{behind, first}
use Rattle.crew_accounts.proofs.ScriptLines.{in_script}
use Rattle.crew_accounts.proofs.Stored.{asked}
use Rattle.crew_accounts.proofs.Taking.{uses}

-- the other view has seen all that this one has
abbrev SeesAll : View (List ℕ) → View (List ℕ) → Type 0
SeesAll v w = (x : Sight) → Contains v.seen x → Contains w.seen x

-- what is known with a view is known with one that has seen more
carried : (g : Ground (List ℕ)) (e : Entry) (v w : View (List ℕ)) → SeesAll v w → LoggedWhole g e v → LoggedWhole g e w
carried g e v w more h = record {
  some = h.some;
  logged = λ place low. let l = h.logged place low in record {
    link = l.link;
    seen = more (Logged l.link) l.seen;
    durable = l.durable;
    anchor_is = l.anchor_is;
    version_is = l.version_is;
    place_is = l.place_is;
  };
  published = more (Published e.anchor e.version (pieces_in g e)) h.published;
  offer = more (Named e.anchor e.version Offer e.offer) h.offer;
}

module _ {C O St : Type 0} (tells : Bool) (state : C → CellState) (offers : O → Offers) (faults : St → ℕ) where
  went_on : (x : Stage (OnShelf C O St)) (request : Request) → x.line.request ≡ request → IsServed request → Went tells state offers faults x.before x.line x.answer x.after → SeesAll (view x.before.pass) (view x.after.pass)
  went_on x request is served h = let t = uses x.line.request (subst IsServed (sym is) served) in (h.serves.leaves t.0 t.1).keeps.seen

  -- a line takes nothing away that the pass has seen
  sees_on : (x : Stage (OnShelf C O St)) (request : Request) → x.line.request ≡ request → StepOn tells state offers faults request x.before x.line x.answer x.after → SeesAll (view x.before.pass) (view x.after.pass)
  sees_on x (Mark mark) is step = λ s h. subst (λ (v : View (List ℕ)). Contains v.seen s) (sym step.1.noted.view_is) h
  sees_on x (Await mark) is (inl met) = λ s h. subst (λ (v : View (List ℕ)). Contains v.seen s) (sym met.1.notes.view_is)
      (subst (λ (v : View (List ℕ)). Contains v.seen s) (sym met.1.learns.view_is) (Contains-append_right _ (view x.before.pass).seen s h))
  sees_on x (Await mark) is (inr unmet) = λ s h. subst (λ (shelf : OnShelf C O St). Contains (view shelf.pass).seen s) (sym unmet.1) h
  sees_on x request is step = went_on x request is tt step

  -- and leaves the store
  stays : (x : Stage (OnShelf C O St)) (request : Request) → StepOn tells state offers faults request x.before x.line x.answer x.after → x.after.store ≡ x.before.store
  stays x (Mark mark) step = step.1.noted.store
  stays x (Await mark) (inl met) = met.1.notes.store ∙ met.1.learns.store
  stays x (Await mark) (inr unmet) = ap OnShelf.store unmet.1
  stays x _ step = step.store

  abbrev AllSteps : List (Stage (OnShelf C O St)) → Type 0
  AllSteps stages = (x : Stage (OnShelf C O St)) → Contains stages x → IsStep tells state offers faults x

  -- what the pass has seen at the start of lines it has seen behind them
  to_last : (stages : List (Stage (OnShelf C O St))) (start last : OnShelf C O St) → Linked start stages last → AllSteps stages → SeesAll (view start.pass) (view last.pass)
  to_last [] start last linked steps s h = subst (λ (shelf : OnShelf C O St). Contains (view shelf.pass).seen s) (sym linked) h
  to_last (y ∷ stages) start last linked steps s h = to_last stages y.after last linked.1 (λ z g. steps z (behind y stages z g)) s
      (sees_on y y.line.request refl (steps y (first y stages)) s (subst (λ (shelf : OnShelf C O St). Contains (view shelf.pass).seen s) (sym linked.0) h))

  -- a line of a worker is served on the store of the start, and what the pass has seen after it, it has seen at the last
  record IsBetween (x : Stage (OnShelf C O St)) (start last : OnShelf C O St) : Type 0 where
    store : x.before.store ≡ start.store
    sees : SeesAll (view x.after.pass) (view last.pass)

  between : (stages : List (Stage (OnShelf C O St))) (start last : OnShelf C O St) → Linked start stages last → AllSteps stages → (x : Stage (OnShelf C O St)) → Contains stages x → IsBetween x start last
  between [] start last linked steps x h = absurd (contains_none x h)
  between (y ∷ stages) start last linked steps x h = either (cons_contains y x stages h) (between stages y.after last linked.1 (λ z g. steps z (behind y stages z g)) x)
    where
      either : (y ≡ x) ⊎ Contains stages x → (Contains stages x → IsBetween x y.after last) → IsBetween x start last
      either (inl e) rest = subst (λ (z : Stage (OnShelf C O St)). IsBetween z start last) e record {
        store = ap OnShelf.store linked.0;
        sees = to_last stages y.after last linked.1 (λ z g. steps z (behind y stages z g));
      }
      either (inr g) rest = let b = rest g in record {
        store = b.store ∙ stays y y.line.request (steps y (first y stages)) ∙ ap OnShelf.store linked.0;
        sees = b.sees;
      }

  -- leaving tabs takes nothing away either
  left_sees : (s : Store C O) (t : ℕ) (p q : Pass C) → LeftBelow tells state offers s t p q → SeesAll (view p) (view q)
  left_sees s zero p q h x seen = subst (λ (r : Pass C). Contains (view r).seen x) (sym h) seen
  left_sees s (suc t) p q h x seen = h.2.leaves.keeps.seen x (left_sees s t p h.0 h.1 x seen)

  -- the answer STORED to a `save` is that of an entry of which all was known
  known_there : (g : Ground (List ℕ)) (offer : ℕ) (url : List ℕ) (v : View (List ℕ)) (a : Answer) (version : ℕ) (outcome : Result Ended PutFault) → a ≡ answer_to_put outcome → a ≡ answer.Stored version
      → IfOk outcome (λ ended. ClosedDurably g whole_tab (put_as g offer url true ended) v) → LoggedWhole g (put_as g offer url true (Stored version)) v
  known_there g offer url v a version (Ok (Stored x)) e stored h = let same : answer.Stored x ≡ answer.Stored version = sym e ∙ stored in let is : x ≡ version = cc in
      subst (λ (n : ℕ). LoggedWhole g (put_as g offer url true (Stored n)) v) is h.after
  known_there g offer url v a version (Ok (Doomed x)) e stored h = absurd (let same : answer.Doomed x ≡ answer.Stored version = sym e ∙ stored in cc)
  known_there g offer url v a version (Err (put.Begin LongUrl)) e stored h = absurd (let same : answer.LongUrl ≡ answer.Stored version = sym e ∙ stored in cc)
  known_there g offer url v a version (Err (put.Begin (Busy looked found))) e stored h = absurd (let same : answer.Busy looked found ≡ answer.Stored version = sym e ∙ stored in cc)
  known_there g offer url v a version (Err (put.Begin (Spent versions))) e stored h = absurd (let same : answer.Spent versions ≡ answer.Stored version = sym e ∙ stored in cc)
  known_there g offer url v a version (Err (put.Write Large)) e stored h = absurd (let same : answer.Large ≡ answer.Stored version = sym e ∙ stored in cc)
  known_there g offer url v a version (Err (put.Write Full)) e stored h = absurd (let same : answer.Full ≡ answer.Stored version = sym e ∙ stored in cc)
  known_there g offer url v a version (Err (put.Write Fault)) e stored h = absurd (let same : answer.Fault ≡ answer.Stored version = sym e ∙ stored in cc)

  module _ (s : Store C O) (script : List Line) (w : ℕ) (a : Account (OnShelf C O St)) (x : Stage (OnShelf C O St)) (url : List ℕ) (body : Body) (version : ℕ) where
    -- at the line that saved it
    at_line : x.before.store ≡ s → IsStep tells state offers faults x → x.line.request ≡ Save url body → x.answer ≡ answer.Stored version
        → LoggedWhole (basis tells state offers s) (saved_as (basis tells state offers s) x.line.number url version) (view x.after.pass)
    at_line store step is stored =
        let went = subst (λ (r : Request). StepOn tells state offers faults r x.before x.line x.answer x.after) is step in
        let puts = subst (λ (z : Store C O). Puts tells state offers z url x.before.pass x.answer x.after.pass (offer_of tells state offers z x.line.number) true) store
        (subst (ServesRequest tells state offers x.before.store x.line.number x.before.pass x.answer x.after.pass) is went.serves.request) in
        known_there (basis tells state offers s) (offer_of tells state offers s x.line.number) url (view x.after.pass) x.answer version puts.outcome puts.answer_is stored (puts.known refl)

    pub stay_known : IsPlayed tells state offers faults s script w a → Contains a.stages x → x.line.request ≡ Save url body → x.answer ≡ answer.Stored version
        → LoggedWhole (basis tells state offers s) (saved_as (basis tells state offers s) x.line.number url version) (view a.end.pass)
    stay_known h among is stored =
        let has = h.has_steps in
        let b = between a.stages a.start a.last has.linked has.steps x among in
        carried (basis tells state offers s) (saved_as (basis tells state offers s) x.line.number url version) (view x.after.pass) (view a.end.pass)
        (λ z seen. left_sees a.last.store whole_tab a.last.pass a.end.pass has.left.left z (b.sees z seen))
        (at_line (b.store ∙ h.store) (has.steps x among) is stored)

    -- and what it offers is the offer of its number
    pub saved_offer : IsPlayed tells state offers faults s script w a → Contains a.stages x → x.line.request ≡ Save url body → IsOffered tells state offers s (offer_of tells state offers s x.line.number) url body
    saved_offer h among is = let own = in_script (w + 1) script a.stages h.each x among in
        let served = subst IsServed (sym is) tt in
        asked tells state offers s x.line.number (Save url body) url body (refl, refl)
        (subst (MayAsk tells state offers s x.line.number) is (h.takes x.line own.0 own.1 served).asks)

  -- A line that was answered WIPED saw that the first slot was wiped.
  wiped_there : (g : Ground (List ℕ)) (url : List ℕ) (v w : View (List ℕ)) (a : Answer) (epoch : Epoch) (outcome : Result Wiped WipeFault) → a ≡ answer_to_wipe outcome → a ≡ answer.Wiped epoch → IfOk outcome (WipedTells g url v w)
      → HasWiped w (anchor_for g url) epoch.version
  wiped_there g url v w a epoch (Ok (Gone left)) e wiped h =
      let same : answer.Wiped left ≡ answer.Wiped epoch = sym e ∙ wiped in
      let is : left ≡ epoch = cc in
      record {
        slot = h.entry.ends.wiped.slot;
        seen = subst (λ (n : ℕ). Contains w.seen (WipedSight (anchor_for g url) n h.entry.ends.wiped.slot)) (sym h.version_is ∙ ap Epoch.version is) (h.entry.seen refl);
      }
  wiped_there g url v w a epoch (Ok (Later left)) e wiped h = absurd (let same : answer.Later left ≡ answer.Wiped epoch = sym e ∙ wiped in cc)
  wiped_there g url v w a epoch (Err (NoEntry cause)) e wiped h = absurd (let same : answer.NoEntry cause ≡ answer.Wiped epoch = sym e ∙ wiped in cc)
  wiped_there g url v w a epoch (Err WipeFault.Fault) e wiped h = absurd (let same : answer.Fault ≡ answer.Wiped epoch = sym e ∙ wiped in cc)

  module _ (s : Store C O) (script : List Line) (w : ℕ) (a : Account (OnShelf C O St)) (x : Stage (OnShelf C O St)) (url : List ℕ) (epoch : Epoch) where
    wiped_at_line : x.before.store ≡ s → IsStep tells state offers faults x → x.line.request ≡ Wipe url → x.answer ≡ answer.Wiped epoch → HasWiped (view x.after.pass) (anchor_for (basis tells state offers s) url) epoch.version
    wiped_at_line store step is wiped =
        let went = subst (λ (r : Request). StepOn tells state offers faults r x.before x.line x.answer x.after) is step in
        let wipes = subst (λ (z : Store C O). Wipes tells state offers z url x.before.pass x.answer x.after.pass) store
        (subst (ServesRequest tells state offers x.before.store x.line.number x.before.pass x.answer x.after.pass) is went.serves.request) in
        wiped_there (basis tells state offers s) url (view x.before.pass) (view x.after.pass) x.answer epoch wipes.outcome wipes.answer_is wiped wipes.wiped

    pub stay_wiped : IsPlayed tells state offers faults s script w a → Contains a.stages x → x.line.request ≡ Wipe url → x.answer ≡ answer.Wiped epoch → HasWiped (view a.end.pass) (anchor_for (basis tells state offers s) url) epoch.version
    stay_wiped h among is wiped =
        let has = h.has_steps in
        let b = between a.stages a.start a.last has.linked has.steps x among in
        let there = wiped_at_line (b.store ∙ h.store) (has.steps x among) is wiped in
        record { slot = there.slot; seen = left_sees a.last.store whole_tab a.last.pass a.end.pass has.left.left _ (b.sees _ there.seen) }
