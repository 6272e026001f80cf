-- A line that writes an entry to its end.
use Rattle.std.proofs.Common.{Bool, Err, List, None, Ok, Result, ap, inl, inr, refl, subst, sym, ⊎_elim, ◌<◌, ◌∙◌, ◌≡◌, ℕ}
use Rattle.std.specs.Result.{IfErr, IfOk}
use Rattle.rock_disk.specs.Cell.{CellState}
use Rattle.script_text.specs.declared.answer.Answer.{Answer}
use Rattle.script_text.specs.declared.line.Line.{Line}
use Rattle.script_text.specs.declared.request.Request.TheVariants.{End}
use Rattle.line_account.specs.Accounts.{HasFinished}
use Rattle.line_account.specs.Answers.{Run}
use Rattle.line_account.specs.Deeds.{Grows}
use Rattle.line_account.specs.Lines.{Served, url_named, writing}
use Rattle.line_account.specs.Requests.{AnswersEnd}
use Rattle.store_rule.specs.declared.store.Pass.{Pass}
use Rattle.store_rule.specs.declared.store.Store.{Store}
use Rattle.store_rule.specs.Ground.{Ground, Offers}
use Rattle.store_rule.specs.Passes.{basis, view}
use Rattle.rock_writer.specs.Entries.{Entry, WritesAs}
use Rattle.rock_writer.specs.Finishing.{version_of}
use Rattle.rock_writer.specs.declared.fault.Ended.{Ended}
use Rattle.rock_writer.specs.declared.fault.Ended.TheVariants.{Doomed, Stored}
use Rattle.rock_writer.specs.declared.fault.WriteFault.{WriteFault}
use Rattle.rock_writer.specs.declared.fault.WriteFault.TheVariants.{Fault, Full, Large}
use Rattle.store_serve.specs.Storing.{EndedWhole, NotEnded}
use Rattle.store_serve.specs.Deeds.{OfEnding, OfGivingUp, name_of}
use Rattle.store_serve.proofs.ServingDeeds as serving
use Rattle.store_serve.proofs.WriterDeeds.{entry_of}
use Rattle.store_serve.specs.Answers.{answer_to_end, answer_to_ended, answer_to_fault}
use Rattle.store_serve.specs.Tabs.{IsFree, IsTurnedAway, Leaves}
use Rattle.store_serve.specs.Whole.{whole_tab}
use Rattle.store_serve.specs.Writing.{EndsEntry, EndsOn}
use Rattle.crew_accounts.specs.Lines.{AddsLine, served_as}
use Rattle.crew_accounts.specs.Runs.{Past, run_of}
use Rattle.crew_accounts.specs.Tracks.{IsWriter, Tracks}
use Rattle.crew_accounts.proofs.CallDeeds.{adds_by, of_ending, of_giving_up}
use Rattle.crew_accounts.proofs.Ended.{ended_names, ended_turn, ended_version}
use Rattle.crew_accounts.proofs.Fitting.{on_writer, writer_fits}
use Rattle.crew_accounts.proofs.GivingUp.{closed_epoch, ended_evicts, ended_no_part, ended_no_tab, ended_told, ends_ended, ends_fault, fault_evicts, fault_no_part, fault_no_tab, fault_told, gives_up_fault, large_of, self_both, shows_closed, shows_no_epoch, small_of}
use Rattle.crew_accounts.proofs.Halting.{not_ended_seen}
use Rattle.crew_accounts.proofs.Shown.{IsInTurn, shows_none, shows_one}
use Rattle.crew_accounts.proofs.TabLines.{elsewhere, no_more_writes}
use Rattle.crew_accounts.proofs.Telling.{no_more, plain, tells_by}
use Rattle.crew_accounts.proofs.Small.{ended_small}
use Rattle.crew_accounts.proofs.TooLarge.{not_ended_large}
use Rattle.crew_accounts.proofs.Tracking.{tracks_on_tab}
use Rattle.crew_accounts.proofs.TurningAway.{away_adds}
use Rattle.crew_accounts.proofs.Unfit.{not_ended_unfit}
use Rattle.crew_accounts.proofs.WriterLines.{begun_by_first, given_up, grows, halts}

module _ {C O : Type 0} (tells : Bool) (state : C → CellState) (offers : O → Offers) (s : Store C O) (told : Bool) (past : Past) (served : List Served) (worker number t : ℕ) (p q : Pass C) (below : t < whole_tab) where
  abbrev g : Ground (List ℕ)
  g = basis tells state offers s

  abbrev r : Run (List ℕ)
  r = run_of (basis tells state offers s) told past

  abbrev line : Line
  line = record { worker = worker; number = number; request = End t }

  free_again : (e : Entry) (fault : WriteFault) → NotEnded tells state offers s t e p q fault → IsFree q t
  free_again e fault (inl k) = k.stopped.halts.parted.free
  free_again e fault (inr k) = k.stopped.halts.parted.free

  answers_ended : (ended : Ended) → AnswersEnd (answer_to_ended ended)
  answers_ended (Stored x) = tt
  answers_ended (Doomed x) = tt

  answers_fault : (w : WriteFault) → AnswersEnd (answer_to_fault w)
  answers_fault Large = tt
  answers_fault Full = tt
  answers_fault Fault = tt

  module _ (tracks : Tracks tells state offers s told past served p) (leaves : Leaves tells state offers s t p q) (h : IsWriter tells state offers s told past served p t) where
    abbrev e : Entry
    e = h.entry

    was_ended : (ended : Ended) → EndedWhole tells state offers s t h.entry p q ended → AddsLine tells state offers s told past served line p (answer_to_ended ended) q
    was_ended ended k =
        let l = served_as line (answer_to_ended ended) None 0 0 in
        let first = begun_by_first tells state offers s told past served p t h in
        let its : Grows g.setting (view q) served l e.anchor e.version = grows g e h.first first served l h.writes (view q) (ended_names tells state offers s t e p q ended k) in
        let turn = subst (λ (a : ℕ). IsInTurn a (closed_epoch ended) (view p) (view q)) h.anchor (ended_turn tells state offers s t e p q ended k) in
        let shows = shows_one r.setting.anchors (view p) (view q) served l h.url (ap url_named h.writes ∙ h.named) (closed_epoch ended) (shows_closed ended) turn in
        let finished : HasFinished r.setting (view q) served l (version_of ended) = record { anchor = e.anchor; grows = subst (Grows r.setting (view q) served l e.anchor) (sym (ended_version tells state offers s t e p q ended k)) its } in
        record {
          drew = None;
          opened = 0;
          looked = 0;
          adds = adds_by r (view p) (view q) served l refl (OfEnding g (name_of g e) (view q).seen ended)
              (serving.ended tells state offers s t e p q (entry_of tells state offers s t e h.is) k)
              (λ d. of_ending r (view q) served l d g (λ unfit. record { may = ended_evicts ended; wants = unfit }) (name_of g e) (view q).seen ended (grows g e h.first first served l h.writes (view q)) refl)
              shows
              (tells_by r (view q) served l (ended_told r (view q) served l ended finished (small_of g told past e h.first first h.is.rests.from served l h.writes (ended_small tells state offers s t e p q ended k h.small)))
              (plain r (view q) served l (no_more r (view q) served l (λ j e. cc)) (λ b f z. (shows b f z).seen) (answers_ended ended) refl (λ x z. z) (λ x z. z) (λ url body z. z) (writer_fits tells state offers s told past served p t (answer_to_ended ended) q h) (ended_no_tab ended)))
              (λ y f bytes z. absurd (ended_no_part ended f bytes z));
          tracks = tracks_on_tab tells state offers s told past served p q t l below leaves (λ j ne. elsewhere (End t) (answer_to_ended ended) j ne)
              (inl (record { writes = no_more_writes t l served refl (self_both t _ (ends_ended ended)); reads = h.reads; free = k.finished.parted.free })) tracks;
        }

    was_given_up : (fault : WriteFault) → NotEnded tells state offers s t h.entry p q fault → AddsLine tells state offers s told past served line p (answer_to_fault fault) q
    was_given_up fault k =
        let l = served_as line (answer_to_fault fault) None 0 0 in
        let first = begun_by_first tells state offers s told past served p t h in
        let none = shows_none r.setting.anchors (view p) (view q) served l (shows_no_epoch fault) in
        let up = given_up g e h.first first served l h.writes (view q) (not_ended_seen tells state offers s t e p q fault h.is k) in
        record {
          drew = None;
          opened = 0;
          looked = 0;
          adds = adds_by r (view p) (view q) served l refl (OfGivingUp g (name_of g e) (view q).seen)
              (serving.not_ended tells state offers s t e p q fault (entry_of tells state offers s t e h.is) k)
              (λ d. of_giving_up r (view q) served l d g (λ unfit. record { may = fault_evicts fault; wants = unfit }) (name_of g e) (view q).seen (grows g e h.first first served l h.writes (view q)) (halts g e h.first first served l h.writes (gives_up_fault fault)))
              none
              (tells_by r (view q) served l (fault_told r (view q) served l fault up (not_ended_unfit tells state offers s t e p q fault k) (λ z. large_of g told past e h.first first h.is.rests.from served l h.writes (not_ended_large tells state offers s t e p q fault k z)))
              (plain r (view q) served l (no_more r (view q) served l (λ j e. cc)) (λ b f z. (none b f z).seen) (answers_fault fault) refl (λ x z. z) (λ x z. z) (λ url body z. z) (writer_fits tells state offers s told past served p t (answer_to_fault fault) q h) (fault_no_tab fault)))
              (λ y f bytes z. absurd (fault_no_part fault f bytes z));
          tracks = tracks_on_tab tells state offers s told past served p q t l below leaves (λ j ne. elsewhere (End t) (answer_to_fault fault) j ne)
              (inl (record { writes = no_more_writes t l served refl (self_both t _ (ends_fault fault)); reads = h.reads; free = free_again e fault k })) tracks;
        }

    by_outcome : (a : Answer) (o : Result Ended WriteFault) → a ≡ answer_to_end o → IfOk o (λ ended. EndedWhole tells state offers s t h.entry p q ended) → IfErr o (λ fault. NotEnded tells state offers s t h.entry p q fault)
        → AddsLine tells state offers s told past served line p a q
    by_outcome a (Ok ended) is ok err = subst (λ (z : Answer). AddsLine tells state offers s told past served line p z q) (sym is) (was_ended ended ok)
    by_outcome a (Err fault) is ok err = subst (λ (z : Answer). AddsLine tells state offers s told past served line p z q) (sym is) (was_given_up fault err)

  pub end_adds : (a : Answer) → Tracks tells state offers s told past served p → Leaves tells state offers s t p q → EndsOn tells state offers s t p a q → AddsLine tells state offers s told past served line p a q
  end_adds a tracks leaves met = ⊎_elim
      (λ (m : IsWriter tells state offers s told past served p t × ((e : Entry) → WritesAs tells state offers s p t e → EndsEntry tells state offers s t p a q e)).
      let to = m.1 m.0.entry m.0.is in by_outcome tracks leaves m.0 a to.outcome to.answer_is to.ended to.given_up)
      (λ (m : (writing t served ≡ None) × IsTurnedAway p a q).
      away_adds tells state offers s told past served line p a q m.1 (λ fits. fits m.0) (λ url body z. absurd z) tracks)
      (on_writer tells state offers s told past served p t a q ((e : Entry) → WritesAs tells state offers s p t e → EndsEntry tells state offers s t p a q e) met (tracks.each t below))
