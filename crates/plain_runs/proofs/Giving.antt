-- Requests on a tab that writes are answered as by the plain store, and leave what it leaves.
use Rattle.std.proofs.Common.{Bool, List, None, Option, Some, [], ap, arith, cond, false, get_or, get_or-set_other, get_or-set_same, inl, inr, length, length-set, refl, set, subst, sym, true, ◌+◌, ◌-◌, ◌<◌, ◌∙◌, ◌≡◌, ◌≢◌, ◌≤◌, ◌⊎◌, ◌∷◌, ℕ}
use Rattle.std.specs.Prelude.{Err, IfErr, IfOk, Ok, Result, min}
use Rattle.std.proofs.lemmas.Bool.{false≢true}
use Rattle.std.proofs.lemmas.List.{get_or_past}
use mathlib.Core.Logic.{dite}
use native.Mathlib.Decide.{ℕ_discrete}
use Rattle.rock_disk.specs.Cell.{CellState}
use Rattle.script_text.specs.declared.body.Body.{Body}
use Rattle.script_text.specs.declared.answer.Answer.{Answer}
use Rattle.script_text.specs.declared.answer.Answer.TheVariants as answer
use Rattle.core_model.specs.Chains.{slots_of_link}
use Rattle.core_model.specs.Tabs.{inner, tab_at}
use Rattle.core_model.specs.declared.moves.Move.TheVariants.{Count, Draw, Look, StoreSide, Take}
use Rattle.core_model.specs.declared.moves.Side.TheVariants.{Key0, Key1, Offer, Start}
use Rattle.core_model.specs.declared.tab.Tab.{Tab as ViewTab}
use Rattle.core_model.specs.declared.tab.Tab.TheVariants as tab
use Rattle.core_model.specs.declared.view.View.{View}
use Rattle.plain_model.specs.declared.entry.Entry.{Entry}
use Rattle.plain_model.specs.declared.entry.Life.{Life}
use Rattle.plain_model.specs.declared.entry.Life.TheVariants.{GivenUp, Growing, Whole}
use Rattle.plain_model.specs.declared.store.Plain.{Plain}
use Rattle.plain_model.specs.declared.store.Refusal.{Refusal}
use Rattle.plain_model.specs.declared.store.Refusal.TheVariants.{Full, Large}
use Rattle.plain_model.specs.declared.store.Setting.{Setting}
use Rattle.plain_model.specs.declared.store.Tab.{Tab}
use Rattle.plain_model.specs.declared.store.Tab.TheVariants as plain
use Rattle.plain_model.specs.Slots.{Grown, grown_as}
use Rattle.plain_model.specs.Store.{entry_at, is_left_over_at, place_at, tab_at as plain_tab}
use Rattle.plain_model.specs.Serving.{bytes_of, put}
use Rattle.plain_model.specs.Writing.{Step, add, append, close_writer, end, entry_of, finish, give_up, lacking, last_slot, refused_by, settle, step, taken_by, unless_refused}
use Rattle.plain_laws.specs.Renaming.{renamed}
use Rattle.plain_laws.proofs.Choosing.{either}
use Rattle.plain_laws.proofs.Roomed.{add_is, end_is, unless_none, unless_some}
use Rattle.store_rule.specs.Calls.{Others}
use Rattle.store_rule.proofs.OtherTabs.{others_go_on, others_stay}
use Rattle.rock_writer.specs.Beginning.{Began, TookAnchor, WasIdle, WasVacant, begun as begun_as}
use Rattle.rock_writer.specs.declared.fault.BeginFault.{BeginFault}
use Rattle.rock_writer.specs.Entries.{Entry as Writing_, WritesAs, body_in, size_of, writer_as}
use Rattle.rock_writer.specs.declared.fault.Ended.{Ended}
use Rattle.rock_writer.specs.declared.fault.WriteFault.{WriteFault}
use Rattle.rock_writer.specs.declared.fault.WriteFault.TheVariants as write
use Rattle.rock_writer.proofs.Sizes.{more_there}
use Rattle.store_serve.specs.Answers.{answer_to_ended, answer_to_fault, is_fault}
use Rattle.store_serve.specs.Tabs.{IsOffered}
use Rattle.store_serve.specs.Whole.{Puts}
use Rattle.store_serve.specs.Writing.{AddsTo, Drops, EndsEntry}
use Rattle.slice_chain.specs.Victims.{hand_in}
use Rattle.store_rule.specs.declared.store.Pass.{Pass}
use Rattle.store_rule.specs.declared.store.Store.{Store}
use Rattle.store_key.specs.Anchor.{back_half, front_half}
use Rattle.store_key.specs.Key.{key_of}
use Rattle.store_rule.specs.Ground.{Ground, Offers, anchor_for}
use Rattle.store_rule.specs.Passes.{basis, view}
use Rattle.store_rule.proofs.Passing.{pass_of}
use Rattle.store_serve.specs.Adding.{NotAdded, StoppedBelow, taken_on}
use Rattle.store_serve.specs.Storing.{EndedWhole, NotClosed, NotEnded, left_of}
use Rattle.store_serve.specs.declared.storing.PutFault.TheVariants.{Begin, Write}
use Rattle.worker_shelf.specs.Typed.{IsTyped}
use Rattle.plain_runs.specs.Words.{IsLone, KnowsLot, Lot, no_guests, setting_of, whole_lot}
use Rattle.plain_runs.specs.Shows.{IsWithin, Shows, ShowsLot, ShowsReading, ShowsTab, ShowsWriting}
use Rattle.plain_runs.proofs.Adding.{Grows, HasAppended, body_is, content_is, took_right}
use Rattle.plain_runs.proofs.BeginLines.{IsBegun, NotBegun, is_begun, not_begun, put_ends, put_refused}
use Rattle.plain_runs.proofs.Ending.{HasFinished, finished_right}
use Rattle.plain_runs.proofs.Halting.{HasHalted, ended_with, halts_right}
use Rattle.plain_runs.proofs.OwnAnchors.{OwnsLot}
use Rattle.plain_runs.proofs.Reserving.{AreQuiet, IsQuiet, IsReadied, Supply}
use Rattle.plain_runs.proofs.ShowingOthers.{ShowsOn, within_free}
use Rattle.plain_runs.proofs.Stopping.{HasGivenUp, HasNotAdded, HasNotFinished, not_added_right, not_finished_right}

-- what settling and closing leave of tabs and of the hand
pub settle_tabs : (a : ℕ) (p : Plain) → (settle a p).tabs ≡ p.tabs
settle_tabs a p = either (λ (q : Plain). q.tabs ≡ p.tabs) (is_left_over_at p a) _ _ (λ e. refl) (λ e. refl)

pub settle_hand : (a : ℕ) (p : Plain) → (settle a p).hand ≡ p.hand
settle_hand a p = either (λ (q : Plain). q.hand ≡ p.hand) (is_left_over_at p a) _ _ (λ e. refl) (λ e. refl)

pub closed_tab : (life : Life) (t a : ℕ) (p : Plain) → t < length p.tabs → plain_tab (close_writer life t a p) t ≡ plain.Free
closed_tab life t a p lt = ap (λ (xs : List Tab). get_or xs t plain.Free) (settle_tabs a (ended_with life t a p)) ∙ get_or-set_same p.tabs t plain.Free plain.Free lt

pub closed_hand : (life : Life) (t a : ℕ) (p : Plain) → (close_writer life t a p).hand ≡ p.hand
closed_hand life t a p = settle_hand a (ended_with life t a p)

-- no fault was told, so none came
pub no_fault : (f : WriteFault) → is_fault (answer_to_fault f) ≡ false → f ≢ write.Fault
no_fault f e is = absurd (false≢true (sym e ∙ ap (λ (f : WriteFault). is_fault (answer_to_fault f)) is))

refused_same : (rename : ℕ → ℕ) (r : Refusal) → renamed rename (refused_by r) ≡ refused_by r
refused_same rename Full = refl
refused_same rename Large = refl

module _ {C O : Type 0} (tells : Bool) (state : C → CellState) (offers : O → Offers) (st : Store C O) (rename : ℕ → ℕ) (t : ℕ) (pass : Pass C) (p : Plain) (h : Shows tells state offers st rename pass p) where
  -- a pass that shows a plain store is at rest
  pub quiet : AreQuiet t (view pass)
  quiet j ne far = dite (ℕ_discrete (8 - j) 0)
      (λ past. subst IsQuiet (sym (get_or_past (view pass).tabs j tab.Free (let n = pass_of pass in let f = far in omega arith))) tt)
      (λ within. of_tab (plain_tab p j) (h.tabs j (omega arith) refl))
    where
      shown_empty : (xs : List ℕ) → Rattle.rock_writer.specs.Entries.not_empty xs ≡ false → xs ≡ []
      shown_empty [] e = refl
      shown_empty (x ∷ xs) e = cc

      of_tab : (k : Tab) → ShowsTab tells state offers st rename pass p j k → IsQuiet (tab_at (view pass) j)
      of_tab plain.Free is = subst IsQuiet (sym is) tt
      of_tab (plain.Writing a) w = subst IsQuiet (sym w.writes.rests.is) (refl, shown_empty w.writes.published)
      of_tab (plain.Reading a given is_other) r = subst IsQuiet (sym r.reads.is) tt

  -- so in a store with one pass it may count free slots
  pub counted_supply : IsLone (basis tells state offers st) → (a : ℕ) → Supply (basis tells state offers st) whole_lot t a (view pass) p
  counted_supply lone a = inl record { lone = lone; whole = refl; quiet = quiet }

module _ {C O : Type 0} (tells : Bool) (state : C → CellState) (offers : O → Offers) (st : Store C O) (lot : Lot) (rename : ℕ → ℕ) (t : ℕ) (below : t < 8) where
  abbrev g : Ground (List ℕ)
  g = basis tells state offers st

  abbrev s : Setting
  s = setting_of g

  -- The answer is that of this step of the plain store, and the pass shows what it leaves, with the tab.
  pub record IsGiven (a : Answer) (q : Pass C) (made : Step) : Type 0 where
    pub answered : a ≡ renamed rename made.answer
    pub shows : ShowsOn tells state offers st rename lot q made.after t

  given_as : (a : Answer) (q : Pass C) (x y : Step) → x ≡ y → IsGiven a q y → IsGiven a q x
  given_as a q x y e h = subst (IsGiven a q) (sym e) h

  -- A tab that writes at this anchor, of a pass that is at rest.
  module _ (pass : Pass C) (p : Plain) (anchor : ℕ) (writes : plain_tab p t ≡ plain.Writing anchor) (w : ShowsWriting tells state offers st rename pass p t anchor) (ready : IsReadied g lot rename t w.written.anchor (view pass) p pass.hand)
      (ours : lot.anchors w.written.anchor ≡ true) where
    abbrev e : Writing_
    e = w.written

    abbrev x : Entry
    x = w.entry

    ours_here : lot.anchors anchor ≡ true
    ours_here = subst (λ (b : ℕ). lot.anchors b ≡ true) w.anchor_is ours

    few_tabs : t < length p.tabs
    few_tabs = let n = ready.eight in let b = below in omega arith

    plain_is : plain_tab p t ≡ plain.Writing e.anchor
    plain_is = writes ∙ ap plain.Writing (sym w.anchor_is)

    grows : Grows tells state offers st lot rename t pass p e x
    grows = record {
      writes = w.writes;
      there = ap (entry_at p) w.anchor_is ∙ w.there;
      grows = w.grows;
      version_is = w.version_is ∙ ap (λ (b : ℕ). rename (place_at p b).version) (sym w.anchor_is);
      offer_is = w.offer_is;
      size = w.size;
    }

    -- as many bytes are left of its body
    left_is : (q : Pass C) → left_of tells state offers st t e pass q ≡ lacking x
    left_is q = let c = content_is tells state offers st lot rename t pass p e x ready ours grows in let b = ap length (body_is tells state offers st lot rename t pass p e x ready ours grows) in omega arith

    -- the tab as the plain store has it after bytes were added
    shows_grown : (q : Pass C) (store : Plain) (e2 : Writing_) (x2 : Entry) → e2.anchor ≡ e.anchor → store.tabs ≡ p.tabs → Grows tells state offers st lot rename t q store e2 x2 → ShowsTab tells state offers st rename q store t (plain_tab store t)
    shows_grown q store e2 x2 same tabs gr = subst (ShowsTab tells state offers st rename q store t) (sym (ap (λ (xs : List Tab). get_or xs t plain.Free) tabs ∙ writes)) record {
      inside = w.inside;
      entry = x2;
      there = ap (entry_at store) at ∙ gr.there;
      grows = gr.grows;
      written = e2;
      writes = gr.writes;
      anchor_is = sym at;
      version_is = gr.version_is ∙ ap (λ (b : ℕ). rename (place_at store b).version) (sym at);
      offer_is = gr.offer_is;
      size = gr.size;
    }
      where
        at : anchor ≡ e2.anchor
        at = sym w.anchor_is ∙ sym same

    -- what an entry that was given up leaves
    gave_up_so : (q : Pass C) (store : Plain) → store.tabs ≡ p.tabs → HasGivenUp tells state offers st lot rename t q e.anchor store → ShowsOn tells state offers st rename lot q (close_writer GivenUp t anchor store) t
    gave_up_so q store tabs gave = record {
      knows = subst (λ (b : ℕ). KnowsLot g rename lot (view q) (close_writer GivenUp t b store) no_guests) w.anchor_is gave.knows;
      hand = gave.hand_is ∙ sym (closed_hand GivenUp t anchor store);
      tab = subst (ShowsTab tells state offers st rename q (close_writer GivenUp t anchor store) t) (sym (closed_tab GivenUp t anchor store (let n = ap length tabs in let f = few_tabs in omega arith))) gave.free;
      within = within_free lot (plain_tab (close_writer GivenUp t anchor store) t) (closed_tab GivenUp t anchor store (let n = ap length tabs in let f = few_tabs in omega arith));
    }

    -- the same, of the whole step of the plain store
    refused_so : (a : Answer) (q : Pass C) (next : Plain → Step) (made : Grown) (store : Plain) (refusal : Refusal) → made ≡ grown_as store (Some refusal) → a ≡ refused_by refusal → store.tabs ≡ p.tabs
        → HasGivenUp tells state offers st lot rename t q e.anchor store → IsGiven a q (unless_refused t anchor next made)
    refused_so a q next made store refusal is answered tabs gave = given_as a q (unless_refused t anchor next made) (step (refused_by refusal) (close_writer GivenUp t anchor store))
        (ap (unless_refused t anchor next) is ∙ unless_some t anchor next (grown_as store (Some refusal)) refusal refl)
        record { answered = answered ∙ sym (refused_same rename refusal); shows = gave_up_so q store tabs gave }

    -- Bytes were added, or the entry was given up while fewer were than were asked for.
    adds_so : (count : ℕ) (a : Answer) (q : Pass C) → is_fault a ≡ false → AddsTo tells state offers st t pass a q count e → IsGiven a q (add s t count p)
    adds_so count a q fair d = given_as a q (add s t count p) (unless_refused t anchor (step (answer.Added (min count (lacking x)))) (append s anchor (min count (lacking x)) x.content p)) (add_is s t count anchor p x writes w.there)
        (of_outcome d.outcome d.answer_is d.all d.added (below_of d.outcome d.fewer))
      where
        made : Grown
        made = append s anchor (min count (lacking x)) x.content p

        below_of : (outcome : Result ℕ WriteFault) → IfErr outcome (λ fault. StoppedBelow tells state offers st t e pass q (min count (left_of tells state offers st t e pass q)) fault)
            → IfErr outcome (λ fault. (n : NotAdded tells state offers st t e pass q fault) × (n.total < min count (left_of tells state offers st t e pass q)))
        below_of (Ok total) h = tt
        below_of (Err fault) h = (h.not_added, h.fewer)

        most : min count (left_of tells state offers st t e pass q) ≡ min count (lacking x)
        most = ap (λ (n : ℕ). min count n) (left_is q)

        of_outcome : (outcome : Result ℕ WriteFault) → a ≡ Rattle.store_serve.specs.Answers.answer_to_add outcome → IfOk outcome (λ added. added ≡ min count (left_of tells state offers st t e pass q))
            → IfOk outcome (λ added. Rattle.store_serve.specs.Adding.Added tells state offers st t e pass q added)
            → IfErr outcome (λ fault. (n : NotAdded tells state offers st t e pass q fault) × (n.total < min count (left_of tells state offers st t e pass q)))
            → IsGiven a q (unless_refused t anchor (step (answer.Added (min count (lacking x)))) (append s anchor (min count (lacking x)) x.content p))
        of_outcome (Ok total) is all added err = given_as a q _ (step (answer.Added (min count (lacking x))) b.store)
            (ap (unless_refused t anchor (step (answer.Added (min count (lacking x))))) (ap (λ (n : ℕ). append s anchor n x.content p) (sym total_is) ∙ (ap (λ (c : ℕ). append s c total x.content p) (sym w.anchor_is) ∙ b.grown)))
            record {
              answered = is ∙ ap answer.Added total_is;
              shows = record {
                knows = b.ready.knows;
                hand = b.ready.hand_is;
                tab = shows_grown q b.store _ _ refl b.tabs b.grows;
                within = subst (IsWithin lot) (sym (ap (λ (xs : List Tab). get_or xs t plain.Free) b.tabs ∙ writes)) ours_here;
              };
            }
          where
            total_is : total ≡ min count (lacking x)
            total_is = all ∙ most

            b : HasAppended tells state offers st lot rename t pass q p e x total
            b = took_right tells state offers st lot rename t pass p e x ready ours grows added.calls q total added.took
        of_outcome (Err fault) is all added (n, before) = refused_so a q (step (answer.Added (min count (lacking x)))) (append s anchor (min count (lacking x)) x.content p) b.store b.refusal
            (ap (λ (c : ℕ). append s c (min count (lacking x)) x.content p) (sym w.anchor_is) ∙ b.refused) (is ∙ b.answered) b.tabs b.gave_up
          where
            b : HasNotAdded tells state offers st lot rename t q p e x (min count (lacking x)) fault
            b = not_added_right tells state offers st lot rename t pass q p e x ready ours grows plain_is fault (no_fault fault (sym (ap is_fault is) ∙ fair)) n (min count (lacking x)) (subst (λ (k : ℕ). n.total < k) most before)

    -- how the plain store goes on where the rest was added
    abbrev last : Plain → Step
    last r = unless_refused t anchor (finish t anchor) (last_slot s (x.content + lacking x) r)

    abbrev left : ℕ
    left = length (body_in g e) - e.taken

    -- The rest was added and the entry closed, or it was given up.
    pub ends_so : (a : Answer) (q : Pass C) → is_fault a ≡ false → EndsEntry tells state offers st t pass a q e → IsGiven a q (end s t p)
    ends_so a q fair d = given_as a q (end s t p) (unless_refused t anchor last (append s anchor (lacking x) x.content p)) (end_is s t anchor p x writes w.there) (of_outcome d.outcome d.answer_is d.ended d.given_up)
      where
        all_taken : e.taken + left ≡ length (body_in g e)
        all_taken = let i = w.writes.drafts.inside in omega arith

        after_tab : (store : Plain) → store.tabs ≡ p.tabs → plain_tab store t ≡ plain.Writing e.anchor
        after_tab store tabs = ap (λ (xs : List Tab). get_or xs t plain.Free) tabs ∙ plain_is

        added_all : (middle : Pass C) → (b : HasAppended tells state offers st lot rename t pass middle p e x left) → unless_refused t anchor last (append s anchor (lacking x) x.content p) ≡ last b.store
        added_all middle b = ap (unless_refused t anchor last) (ap (λ (n : ℕ). append s anchor n x.content p) (sym (left_is q)) ∙ (ap (λ (c : ℕ). append s c left x.content p) (sym w.anchor_is) ∙ b.grown))
            ∙ unless_none t anchor last (grown_as b.store None) refl

        some_length : (xs : List ℕ) → xs ≢ [] → length xs ≢ 0
        some_length [] ne z = ne refl
        some_length (y ∷ ys) ne z = absurd (omega arith)

        of_outcome : (outcome : Result Ended WriteFault) → a ≡ Rattle.store_serve.specs.Answers.answer_to_end outcome → IfOk outcome (λ ended. EndedWhole tells state offers st t e pass q ended)
            → IfErr outcome (λ fault. NotEnded tells state offers st t e pass q fault) → IsGiven a q (unless_refused t anchor last (append s anchor (lacking x) x.content p))
        of_outcome (Ok ended) is whole err = given_as a q _ (finish t anchor f.store)
            (added_all whole.middle b ∙ (ap (λ (n : ℕ). unless_refused t anchor (finish t anchor) (last_slot s n b.store)) (ap (λ (n : ℕ). x.content + n) (sym (left_is q))) ∙ (ap (unless_refused t anchor (finish t anchor)) f.slot ∙ unless_none t anchor (finish t anchor) (grown_as f.store None) refl)))
            record {
              answered = is ∙ f.answered ∙ ap (λ (c : ℕ). renamed rename (finish t c f.store).answer) w.anchor_is;
              shows = record {
                knows = subst (λ (c : ℕ). KnowsLot g rename lot (view q) (close_writer Whole t c f.store) no_guests) w.anchor_is f.knows;
                hand = f.hand_is ∙ sym (closed_hand Whole t anchor f.store);
                tab = subst (ShowsTab tells state offers st rename q (close_writer Whole t anchor f.store) t) (sym (closed_tab Whole t anchor f.store (let n = ap length f.tabs in let m = ap length b.tabs in let z = few_tabs in omega arith))) f.free;
                within = within_free lot (plain_tab (close_writer Whole t anchor f.store) t) (closed_tab Whole t anchor f.store (let n = ap length f.tabs in let m = ap length b.tabs in let z = few_tabs in omega arith));
              };
            }
          where
            b : HasAppended tells state offers st lot rename t pass whole.middle p e x left
            b = took_right tells state offers st lot rename t pass p e x ready ours grows whole.added.calls whole.middle left whole.added.took

            f : HasFinished tells state offers st lot rename t whole.middle b.store (taken_on e left) (record x { content = x.content + left }) b.ready ours b.grows all_taken (after_tab b.store b.tabs) q ended
            f = finished_right tells state offers st lot rename t whole.middle b.store (taken_on e left) (record x { content = x.content + left }) b.ready ours b.grows all_taken (after_tab b.store b.tabs) q ended whole.finished
        of_outcome (Err fault) is whole (inl n) = refused_so a q last (append s anchor (lacking x) x.content p) b.store b.refusal (ap (λ (c : ℕ). append s c (lacking x) x.content p) (sym w.anchor_is) ∙ b.refused) (is ∙ b.answered) b.tabs b.gave_up
          where
            before : n.total < left
            before = let m = more_there (body_in g (taken_on e n.total)) n.bytes (e.taken + n.total) n.stopped.continues (some_length n.bytes n.stopped.some) in omega arith

            b : HasNotAdded tells state offers st lot rename t q p e x (lacking x) fault
            b = not_added_right tells state offers st lot rename t pass q p e x ready ours grows plain_is fault (no_fault fault (sym (ap is_fault is) ∙ fair)) n (lacking x) (subst (λ (k : ℕ). n.total < k) (left_is q) before)
        of_outcome (Err fault) is whole (inr n) = given_as a q _ (unless_refused t anchor (finish t anchor) (last_slot s (x.content + lacking x) b.store)) (added_all n.middle b)
            (refused_so a q (finish t anchor) (last_slot s (x.content + lacking x) b.store) b.store Full (ap (λ (k : ℕ). last_slot s (x.content + k) b.store) (sym (left_is q)) ∙ f.refused) (is ∙ f.answered) b.tabs f.gave_up)
          where
            b : HasAppended tells state offers st lot rename t pass n.middle p e x left
            b = took_right tells state offers st lot rename t pass p e x ready ours grows n.added.calls n.middle left n.added.took

            f : HasNotFinished tells state offers st lot rename t n.middle q b.store (taken_on e left) (record x { content = x.content + left }) b.ready ours b.grows (after_tab b.store b.tabs) fault
            f = not_finished_right tells state offers st lot rename t n.middle q b.store (taken_on e left) (record x { content = x.content + left }) b.ready ours b.grows (after_tab b.store b.tabs) fault (no_fault fault (sym (ap is_fault is) ∙ fair)) n.stopped

  -- The requests, of a pass that shows the plain store p of a lot of its own, which the tab is of.
  module _ (pass q : Pass C) (p : Plain) (a : Answer) (owns : OwnsLot g lot (view pass).pass) (h : ShowsLot tells state offers st rename pass p lot) (mine : lot.tabs t ≡ true) (anchor : ℕ)
      (writes : plain_tab p t ≡ plain.Writing anchor) where
    pub w : ShowsWriting tells state offers st rename pass p t anchor
    w = subst (ShowsTab tells state offers st rename pass p t) writes (h.tabs t below mine)

    ours_written : lot.anchors w.written.anchor ≡ true
    ours_written = ap lot.anchors w.anchor_is ∙ subst (IsWithin lot) writes (h.within t below mine)

    -- where slots come from
    module _ (supply : Supply g lot t w.written.anchor (view pass) p) where
      ready : IsReadied g lot rename t w.written.anchor (view pass) p pass.hand
      ready = record { knows = h.knows; owns = owns; stands = h.own.stands; pass = pass_of pass; inner_free = h.inner_free; supply = supply; hand_is = h.hand; eight = h.eight }

      pub adds_right : (count : ℕ) → is_fault a ≡ false → ((e : Writing_) → WritesAs tells state offers st pass t e → AddsTo tells state offers st t pass a q count e) → IsGiven a q (add s t count p)
      adds_right count fair served = adds_so pass p anchor writes w ready ours_written count a q fair (served w.written w.writes)

      pub ends_right : is_fault a ≡ false → ((e : Writing_) → WritesAs tells state offers st pass t e → EndsEntry tells state offers st t pass a q e) → IsGiven a q (end s t p)
      ends_right fair served = ends_so pass p anchor writes w ready ours_written a q fair (served w.written w.writes)

    pub drops_right : q.hand ≡ pass.hand → Drops tells state offers st t pass a q → IsGiven a q (give_up t p)
    drops_right hand d = given_as a q (give_up t p) (step answer.Dropped (close_writer GivenUp t anchor p)) (rw writes refl) record {
      answered = d.answer_is;
      shows = record {
        knows = subst (λ (b : ℕ). KnowsLot g rename lot (view q) (close_writer GivenUp t b p) no_guests) w.anchor_is done.knows;
        hand = ap (hand_in g.setting.anchors) hand ∙ (h.hand ∙ sym (closed_hand GivenUp t anchor p));
        tab = subst (ShowsTab tells state offers st rename q (close_writer GivenUp t anchor p) t) (sym freed) done.free;
        within = within_free lot (plain_tab (close_writer GivenUp t anchor p) t) freed;
      };
    }
      where
        freed : plain_tab (close_writer GivenUp t anchor p) t ≡ plain.Free
        freed = closed_tab GivenUp t anchor p (let n = h.eight in let b = below in omega arith)

        done : HasHalted g rename lot t w.writes.rests.below (view pass) (view q) w.written.anchor p
        done = halts_right g rename lot t w.writes.rests.below (view pass) (view q) p w.entry (writer_as g w.written w.writes.published w.writes.end (slots_of_link w.writes.end))
            record { knows = h.knows; owns = owns; stands = h.own.stands; pass = pass_of pass; inner_free = h.inner_free; eight = h.eight } ours_written w.writes.rests.is
            (writes ∙ ap plain.Writing (sym w.anchor_is)) (ap (entry_at p) w.anchor_is ∙ w.there) w.grows d.halts

  -- An entry was begun on the tab: the pass is ready to write it.
  pub began_others : (pass middle : Pass C) (offer version : ℕ) (url : List ℕ) (durable : Bool) → Began tells state offers st t offer url durable pass middle version → Others t (view pass) (view middle)
  began_others pass middle offer version url durable b = others_go_on (view pass) b.took.taken (view middle) t
      (others_go_on (view pass) look.seen b.took.taken t (others_stay g (view pass) look.seen (Look (anchor_for g url)) b.n t look.looks none)
      (others_go_on look.seen look.drew.middle b.took.taken t (others_stay g look.seen look.drew.middle Count look.drew.counted t look.drew.look none)
      (others_go_on look.drew.middle look.drawn b.took.taken t (others_stay g look.drew.middle look.drawn Draw look.drew.found t look.drew.draw none)
      (others_stay g look.drawn b.took.taken (Take t (anchor_for g url) version) b.n t look.takes (λ u k. own k)))))
      (others_go_on b.took.taken b.middle (view middle) t (cleared b.took.cleared)
      (others_go_on b.middle b.named.middle0 (view middle) t (others_stay g b.middle b.named.middle0 (StoreSide t Key0 (front_half (key_of url))) b.named.found0 t b.named.front (λ u k. own k))
      (others_go_on b.named.middle0 b.named.middle1 (view middle) t (others_stay g b.named.middle0 b.named.middle1 (StoreSide t Key1 (back_half (key_of url))) b.named.found1 t b.named.back (λ u k. own k))
      (others_go_on b.named.middle1 b.named.middle2 (view middle) t (others_stay g b.named.middle1 b.named.middle2 (StoreSide t Offer offer) b.named.found2 t b.named.stored (λ u k. own k))
      (others_stay g b.named.middle2 (view middle) (StoreSide t Start 0) b.named.found3 t b.named.start (λ u k. own k))))))
    where
      look : TookAnchor g t (anchor_for g url) (view pass) b.n version b.took.taken
      look = b.took.took

      own : {x y : ℕ} → Some x ≡ Some y → y ≡ x
      own e = cc

      none : (u : ℕ) → None ≡ Some u → u ≡ t
      none u e = cc

      cleared : WasVacant g t (anchor_for g url) (view pass) b.n b.took.taken b.middle ⊎ WasIdle g t (anchor_for g url) (view pass) b.n b.took.taken b.middle → Others t b.took.taken b.middle
      cleared (inl v) j ne far = ap (λ (z : View (List ℕ)). tab_at z j) v.same
      cleared (inr i) j ne far = ap (λ (xs : List (ViewTab (List ℕ))). get_or xs j tab.Free) i.freed.tabs ∙ get_or-set_other b.took.taken.tabs inner j tab.Free tab.Free far
