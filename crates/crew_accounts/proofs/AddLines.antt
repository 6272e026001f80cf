-- A line that adds bytes of a body.
use Rattle.std.proofs.Common.{Bool, Contains, Err, List, None, Ok, Result, ap, arith, cond, eq-eqb, false, inl, inr, length, min, refl, subst, sym, true, ⊎_elim, ◌&&◌, ◌+◌, ◌-◌, ◌/◌, ◌<◌, ◌==◌, ◌∙◌, ◌∷◌, ◌≡◌, ℕ}
use Rattle.std.specs.Result.{IfErr, IfOk}
use Rattle.entry_cut.specs.Content.{room_of}
use Rattle.rock_disk.specs.Cell.{CellState}
use Rattle.script_text.specs.declared.answer.Answer.{Answer}
use Rattle.script_text.specs.declared.answer.Answer.TheVariants as answer
use Rattle.script_text.specs.declared.line.Line.{Line}
use Rattle.script_text.specs.declared.request.Request.TheVariants.{Add}
use Rattle.plain_model.specs.Store.{meta_size}
use Rattle.core_model.specs.declared.moves.Side.TheVariants.{Offer}
use Rattle.core_model.specs.declared.view.Sight.TheVariants.{Named, Published}
use Rattle.line_account.specs.Answers.{HasAdded, Run, slots_after}
use Rattle.line_account.specs.Lines.{Served, added, writing}
use Rattle.line_account.specs.Requests.{AnswersAdd}
use Rattle.rock_writer.specs.declared.fault.WriteFault.TheVariants.{Fault, Full, Large}
use Rattle.store_rule.specs.declared.store.Pass.{Pass}
use Rattle.store_rule.specs.declared.store.Store.{Store}
use Rattle.store_rule.specs.Ground.{Ground, Offers}
use Rattle.store_rule.specs.Passes.{basis, view}
use Rattle.rock_writer.specs.Appending.{place_of}
use Rattle.rock_writer.specs.Entries.{Entry, WritesAs, size_of}
use Rattle.rock_writer.specs.declared.fault.WriteFault.{WriteFault}
use Rattle.store_serve.specs.Adding.{Added, NotAdded, taken_on}
use Rattle.store_serve.specs.Storing.{left_of}
use Rattle.store_serve.specs.Deeds.{OfGivingUp, OfPublishing, name_of}
use Rattle.store_serve.specs.Showing.{HasShown}
use Rattle.store_serve.proofs.Counts as counts
use Rattle.store_serve.proofs.ServingDeeds as serving
use Rattle.store_serve.proofs.WriterDeeds.{entry_of}
use Rattle.store_serve.specs.Answers.{answer_to_add, answer_to_fault}
use Rattle.store_serve.specs.Tabs.{IsTurnedAway, Leaves}
use Rattle.store_serve.specs.Whole.{whole_tab}
use Rattle.store_serve.specs.Writing.{AddsOn, AddsTo}
use Rattle.crew_accounts.specs.Lines.{AddsLine, served_as}
use Rattle.crew_accounts.specs.Runs.{Past, run_of}
use Rattle.crew_accounts.specs.Tracks.{IsWriter, Tracks}
use Rattle.crew_accounts.proofs.CallDeeds.{adds_by, of_giving_up, of_publishing}
use Rattle.crew_accounts.proofs.Fitting.{on_writer, writer_fits}
use Rattle.crew_accounts.proofs.GivingUp.{body_eq, fault_evicts, fault_no_part, fault_no_tab, fault_told, gives_up_fault, large_of, refuses_fault, self_both, shows_no_epoch, url_eq}
use Rattle.crew_accounts.proofs.Halting.{not_added_seen}
use Rattle.crew_accounts.proofs.Shown.{shows_none}
use Rattle.crew_accounts.proofs.TabLines.{elsewhere, no_more_writes}
use Rattle.crew_accounts.proofs.Telling.{no_more, plain, tells_by}
use Rattle.crew_accounts.proofs.Small.{took_small}
use Rattle.crew_accounts.proofs.TooLarge.{not_added_large}
use Rattle.crew_accounts.proofs.Tracking.{tracks_on_tab}
use Rattle.crew_accounts.proofs.TurningAway.{away_adds}
use Rattle.crew_accounts.proofs.WriterLines.{begun_by_first, given_up, grows, halts}

and_false : (b : Bool) → (b && false) ≡ false
and_false true = refl
and_false false = refl

module _ {C O : Type 0} (tells : Bool) (state : C → CellState) (offers : O → Offers) (s : Store C O) (told : Bool) (past : Past) (served : List Served) (worker number t asked : ℕ) (p q : Pass C) (below : t < whole_tab) where
  abbrev g : Ground (List ℕ)
  g = basis tells state offers s

  abbrev r : Run (List ℕ)
  r = run_of (basis tells state offers s) told past

  abbrev line : Line
  line = record { worker = worker; number = number; request = Add t asked }

  module _ (tracks : Tracks tells state offers s told past served p) (leaves : Leaves tells state offers s t p q) (h : IsWriter tells state offers s told past served p t) where
    abbrev e : Entry
    e = h.entry

    module _ (count : ℕ) (all : count ≡ min asked (left_of tells state offers s t h.entry p q)) (k : Added tells state offers s t h.entry p q count) where
      abbrev l : Served
      l = served_as line (answer.Added count) None 0 0

      taken_is : e.taken + count ≡ added t (l ∷ served)
      taken_is = let n : added t (l ∷ served) ≡ count + added t served = λ i. cond (eq-eqb t t refl i) count 0 + added t served in let m = h.taken in omega arith

      shown : HasShown g (taken_on e count) (view q).seen
      shown = counts.added tells state offers s t e p q count h.is h.shown k

      place_is : slots_after r.room h.url t (l ∷ served) ≡ place_of g (taken_on e count)
      place_is =
          let m = taken_is in
          let n = ap length h.url_is in
          let sizes : meta_size h.url + added t (l ∷ served) ≡ size_of g (taken_on e count) = omega arith in
          ap (λ (k : ℕ). (k - 1) / room_of g.slot) sizes

      has_added : HasAdded r (view q) served l count
      has_added = record {
        tab = t;
        asked = asked;
        request = refl;
        writes = record { first = h.first; begun_is = h.writes; url = h.url; named = h.named; version = e.version; drew = h.drew };
        count_is = all ∙ (λ i. min asked (length (sym (body_eq g told past e h.first (begun_by_first tells state offers s told past served p t h) h.is.rests.from) i) - h.taken i));
        url_is = url_eq g told past e h.first (begun_by_first tells state offers s told past served p t h) h.is.rests.from;
        published = λ some. let seen = (shown (subst (λ (n : ℕ). 0 < n) place_is some)).0 in
            subst (λ (a : ℕ). Contains (view q).seen (Published a e.version (slots_after r.room h.url t (l ∷ served)))) h.anchor
            (subst (λ (n : ℕ). Contains (view q).seen (Published e.anchor e.version n)) (sym place_is) seen);
        offer = λ some. let seen = (shown (subst (λ (n : ℕ). 0 < n) place_is some)).1 in
            subst (λ (a : ℕ). Contains (view q).seen (Named a e.version Offer (g.setting.slots + h.first.asked.number))) h.anchor
            (subst (λ (n : ℕ). Contains (view q).seen (Named e.anchor e.version Offer n)) h.offer seen.offer);
      }

      was_added : AddsLine tells state offers s told past served line p (answer.Added count) q
      was_added =
          let first = begun_by_first tells state offers s told past served p t h in
          let none = shows_none r.setting.anchors (view p) (view q) served l refl in
          record {
            drew = None;
            opened = 0;
            looked = 0;
            adds = adds_by r (view p) (view q) served l refl (OfPublishing g (name_of g e) (view q).seen)
                (serving.added tells state offers s t e p q (entry_of tells state offers s t e h.is) k)
                (λ d. of_publishing r (view q) served l d g (λ unfit. record { may = tt; wants = unfit }) (name_of g e) (view q).seen (grows g e h.first first served l h.writes (view q)))
                none
                (tells_by r (view q) served l has_added
                (plain r (view q) served l (no_more r (view q) served l (λ j e. cc)) (λ b f shows. (none b f shows).seen) tt refl (λ x z. z) (λ x z. z) (λ url body z. z) (writer_fits tells state offers s told past served p t (answer.Added count) q h) (λ z. cc)))
                (λ y f bytes z. absurd (let c : answer.Added count ≡ answer.Part f bytes = z in cc));
            tracks = tracks_on_tab tells state offers s told past served p q t l below leaves (λ j ne. elsewhere (Add t asked) (answer.Added count) j ne)
                (inr (inl (record {
                  reads = h.reads;
                  first = h.first;
                  writes = (λ i. cond (and_false (t == t) i) None (writing t served)) ∙ h.writes;
                  url = h.url;
                  named = h.named;
                  entry = taken_on e count;
                  is = k.writes;
                  offer = h.offer;
                  url_is = h.url_is;
                  anchor = h.anchor;
                  drew = h.drew;
                  taken = taken_is;
                  shown = shown;
                  small = took_small tells state offers s t e p k.calls q count k.took h.small;
                }))) tracks;
          }

    was_given_up : (fault : WriteFault) → NotAdded tells state offers s t h.entry p q fault → AddsLine tells state offers s told past served line p (answer_to_fault fault) q
    was_given_up fault k =
        let l = served_as line (answer_to_fault fault) None 0 0 in
        let first = begun_by_first tells state offers s told past served p t h in
        let none = shows_none r.setting.anchors (view p) (view q) served l (shows_no_epoch fault) in
        let up = given_up g e h.first first served l h.writes (view q) (not_added_seen tells state offers s t e p q fault h.is k) in
        record {
          drew = None;
          opened = 0;
          looked = 0;
          adds = adds_by r (view p) (view q) served l refl (OfGivingUp g (name_of g e) (view q).seen)
              (serving.not_added tells state offers s t e p q (entry_of tells state offers s t e h.is) k)
              (λ d. of_giving_up r (view q) served l d g (λ unfit. record { may = fault_evicts fault; wants = unfit }) (name_of g e) (view q).seen (grows g e h.first first served l h.writes (view q)) (halts g e h.first first served l h.writes (gives_up_fault fault)))
              none
              (tells_by r (view q) served l (fault_told r (view q) served l fault up k.stopped.unfit (λ z. large_of g told past e h.first first h.is.rests.from served l h.writes (not_added_large tells state offers s t e p q fault k z)))
              (plain r (view q) served l (no_more r (view q) served l (λ j e. cc)) (λ b f shows. (none b f shows).seen) (answers fault) refl (λ x z. z) (λ x z. z) (λ url body z. z) (writer_fits tells state offers s told past served p t (answer_to_fault fault) q h) (fault_no_tab fault)))
              (λ y f bytes z. absurd (fault_no_part fault f bytes z));
          tracks = tracks_on_tab tells state offers s told past served p q t l below leaves (λ j ne. elsewhere (Add t asked) (answer_to_fault fault) j ne)
              (inl (record { writes = no_more_writes t l served refl (self_both t _ (refuses_fault fault)); reads = h.reads; free = k.stopped.halts.parted.free })) tracks;
        }
      where
        answers : (w : WriteFault) → AnswersAdd (answer_to_fault w)
        answers Large = tt
        answers Full = tt
        answers Fault = tt

    by_outcome : (a : Answer) (o : Result ℕ WriteFault) → a ≡ answer_to_add o → IfOk o (λ count. count ≡ min asked (left_of tells state offers s t h.entry p q))
        → IfOk o (λ count. Added tells state offers s t h.entry p q count) → IfErr o (λ fault. NotAdded tells state offers s t h.entry p q fault) → AddsLine tells state offers s told past served line p a q
    by_outcome a (Ok count) is all ok err = subst (λ (z : Answer). AddsLine tells state offers s told past served line p z q) (sym is) (was_added count all ok)
    by_outcome a (Err fault) is all ok err = subst (λ (z : Answer). AddsLine tells state offers s told past served line p z q) (sym is) (was_given_up fault err)

  pub add_adds : (a : Answer) → Tracks tells state offers s told past served p → Leaves tells state offers s t p q → AddsOn tells state offers s t p a q asked → AddsLine tells state offers s told past served line p a q
  add_adds a tracks leaves met = ⊎_elim
      (λ (m : IsWriter tells state offers s told past served p t × ((e : Entry) → WritesAs tells state offers s p t e → AddsTo tells state offers s t p a q asked e)).
      let to = m.1 m.0.entry m.0.is in by_outcome tracks leaves m.0 a to.outcome to.answer_is to.all to.added to.given_up)
      (λ (m : (writing t served ≡ None) × IsTurnedAway p a q).
      away_adds tells state offers s told past served line p a q m.1 (λ fits. fits m.0) (λ url body z. absurd z) tracks)
      (on_writer tells state offers s told past served p t a q ((e : Entry) → WritesAs tells state offers s p t e → AddsTo tells state offers s t p a q asked e) met (tracks.each t below))
