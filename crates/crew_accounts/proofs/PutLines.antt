-- A line that stores a whole response.
use Rattle.std.proofs.Common.{arith, Bool, Err, List, Ok, Result, Some, refl, subst, sym, ◌+◌, ◌≡◌, ℕ}
use Rattle.std.specs.Prelude.{◌↔◌}
use Rattle.std.specs.Result.{IfErr, IfOk}
use Rattle.rock_disk.specs.Cell.{CellState}
use Rattle.script_text.specs.declared.answer.Answer.{Answer}
use Rattle.script_text.specs.declared.answer.Answer.TheVariants as answer
use Rattle.script_text.specs.declared.body.Body.{Body}
use Rattle.script_text.specs.declared.line.Line.{Line}
use Rattle.script_text.specs.declared.request.Request.{Request}
use Rattle.script_text.specs.declared.request.Request.TheVariants.{Put, Save}
use Rattle.line_account.specs.Accounts.{HasFinished}
use Rattle.line_account.specs.Answers.{Run}
use Rattle.line_account.specs.Deeds.{Began, Grows, MayEvict, NeededSlots}
use Rattle.line_account.specs.Lines.{Fits, Served}
use Rattle.line_account.specs.Requests.{IsAnswerTo}
use Rattle.store_rule.specs.declared.store.Pass.{Pass}
use Rattle.store_rule.specs.declared.store.Store.{Store}
use Rattle.store_rule.specs.Ground.{Ground, Offers, anchor_for}
use Rattle.store_rule.specs.Passes.{basis, view}
use Rattle.store_rule.specs.Calls.{IsFresh}
use Rattle.rock_writer.specs.Beginning.{IsTooLong, begun}
use Rattle.rock_writer.specs.Entries.{Entry, body_in, url_in}
use Rattle.rock_writer.specs.Finishing.{version_of}
use Rattle.rock_writer.specs.declared.fault.BeginFault.{BeginFault}
use Rattle.rock_writer.specs.declared.fault.Ended.{Ended}
use Rattle.rock_writer.specs.declared.fault.Ended.TheVariants.{Doomed, Stored}
use Rattle.rock_writer.specs.declared.fault.WriteFault.{WriteFault}
use Rattle.rock_writer.specs.declared.fault.WriteFault.TheVariants.{Fault, Full, Large}
use Rattle.store_serve.specs.Storing.{GaveUpPut, NotPut, PutWhole}
use Rattle.store_serve.specs.declared.storing.PutFault.{PutFault}
use Rattle.store_serve.specs.declared.storing.PutFault.TheVariants.{Begin, Write}
use Rattle.store_serve.specs.Deeds.{HasNames, OfPutting, OfPuttingInVain, name_of}
use Rattle.store_serve.proofs.ServingDeeds as serving
use Rattle.store_serve.proofs.Writers.{began}
use Rattle.store_serve.specs.Answers.{answer_to_ended, answer_to_fault, answer_to_put, answer_to_refusal}
use Rattle.store_serve.specs.Tabs.{IsFree, IsOffered, Leaves}
use Rattle.store_serve.specs.Whole.{Puts, whole_tab}
use Rattle.worker_shelf.specs.Typed.{IsTyped}
use Rattle.crew_accounts.specs.Lines.{AddsLine, served_as}
use Rattle.crew_accounts.specs.Runs.{Past, run_of}
use Rattle.crew_accounts.specs.Tracks.{Tracks}
use Rattle.crew_accounts.proofs.Beginning.{begun_later}
use Rattle.crew_accounts.proofs.CallDeeds.{adds_drawing, of_putting, of_putting_in_vain}
use Rattle.crew_accounts.proofs.Ended.{closed_version, ended_fresh, ended_names, ended_version}
use Rattle.crew_accounts.proofs.GivingUp.{closed_epoch, ended_evicts, ended_no_part, ended_no_tab, ended_told, fault_evicts, fault_no_part, fault_no_tab, fault_told, gives_up_fault, large_of, shows_closed, shows_no_epoch, small_of}
use Rattle.crew_accounts.proofs.Halting.{gave_up_seen}
use Rattle.crew_accounts.proofs.NotBegun.{not_begun}
use Rattle.crew_accounts.proofs.Offering.{IsOffering, offering}
use Rattle.crew_accounts.proofs.Shown.{drawn_above, fresh_from, later_turn, shows_none, shows_one}
use Rattle.crew_accounts.proofs.TabLines.{LeavesAlone, put_alone, save_alone}
use Rattle.crew_accounts.proofs.Telling.{tells_by}
use Rattle.crew_accounts.proofs.Small.{begun_small, ended_small}
use Rattle.crew_accounts.proofs.TooLarge.{NeedsTooMany, not_ended_large}
use Rattle.crew_accounts.proofs.Unfit.{not_ended_unfit}
use Rattle.crew_accounts.proofs.Tracking.{tracks_whole}
use Rattle.crew_accounts.proofs.WriterLines.{IsBegunBy, given_up, grows, halts}

-- the request stores a whole response
pub record IsPutting (request : Request) : Type 0 where
  pub ended : (ended : Ended) → IsAnswerTo request (answer_to_ended ended)
  pub fault : (fault : WriteFault) → IsAnswerTo request (answer_to_fault fault)
  pub began_ended : (ended : Ended) → Began request (answer_to_ended ended) (version_of ended)
  pub began_fault : (fault : WriteFault) (x : ℕ) → Began request (answer_to_fault fault) x
  pub fits : (earlier : List Served) → Fits earlier request
  pub evicts : (a : Answer) → NeededSlots a → MayEvict request a
  pub alone : (a : Answer) (j : ℕ) → LeavesAlone j request a

-- what was stored was not too long
not_long : (ended : Ended) → answer_to_ended ended ≡ answer.LongUrl → ⊥
not_long (Stored x) e = cc
not_long (Doomed x) e = cc

module _ (url : List ℕ) (body : Body) where
  put_ended : (ended : Ended) → IsAnswerTo (Put url body) (answer_to_ended ended)
  put_ended (Stored x) = tt
  put_ended (Doomed x) = tt

  put_fault : (fault : WriteFault) → IsAnswerTo (Put url body) (answer_to_fault fault)
  put_fault Large = tt
  put_fault Full = tt
  put_fault Fault = tt

  put_began : (ended : Ended) → Began (Put url body) (answer_to_ended ended) (version_of ended)
  put_began (Stored x) = refl
  put_began (Doomed x) = refl

  put_gave_up : (fault : WriteFault) (x : ℕ) → Began (Put url body) (answer_to_fault fault) x
  put_gave_up Large x = tt
  put_gave_up Full x = tt
  put_gave_up Fault x = tt

  pub puts_whole : IsPutting (Put url body)
  puts_whole = record { ended = put_ended; fault = put_fault; began_ended = put_began; began_fault = put_gave_up; fits = λ earlier. tt; evicts = λ a h. h; alone = put_alone url body }

  pub saves_whole : IsPutting (Save url body)
  saves_whole = record { ended = put_ended; fault = put_fault; began_ended = put_began; began_fault = put_gave_up; fits = λ earlier. tt; evicts = λ a h. h; alone = save_alone url body }

module _ {C O : Type 0} (tells : Bool) (state : C → CellState) (offers : O → Offers) (s : Store C O) (told : Bool) (past : Past) (served : List Served) (line : Line) (url : List ℕ) (body : Body) (durable : Bool) (p q : Pass C) where
  abbrev g : Ground (List ℕ)
  g = basis tells state offers s

  abbrev r : Run (List ℕ)
  r = run_of (basis tells state offers s) told past

  abbrev offer : ℕ
  offer = (basis tells state offers s).setting.slots + line.number

  -- the entry of this version that the line writes
  abbrev entry : ℕ → Entry
  entry version = begun tells state offers s whole_tab ((basis tells state offers s).setting.slots + line.number) url durable p q version

  module _ (tracks : Tracks tells state offers s told past served p) (leaves : Leaves tells state offers s whole_tab p q) (free : IsFree q whole_tab) (is : IsOffering line.request url body) (putting : IsPutting line.request)
      (body_is : IsOffered tells state offers s ((basis tells state offers s).setting.slots + line.number) url body) where
    first_of : (a : Answer) (version : ℕ) → IsBegunBy g (entry version) (served_as line a (Some version) 0 0)
    first_of a version = record { url = url; named = is.named; offer = refl; url_is = body_is.url_is; anchor = refl; drew = refl }

    was_stored : (ended : Ended) → ((answer_to_ended ended ≡ answer.LongUrl) ↔ IsTooLong g url) → PutWhole tells state offers s whole_tab offer url durable p q ended → AddsLine tells state offers s told past served line p (answer_to_ended ended) q
    was_stored ended long k =
        let x = version_of ended in
        let l = served_as line (answer_to_ended ended) (Some x) 0 0 in
        let e = entry x in
        let first = first_of (answer_to_ended ended) x in
        let begun_is = is.begun served l in
        let e0 = begun tells state offers s whole_tab offer url durable p k.middle k.version in
        let names : HasNames (name_of g e) (view q).seen = subst (λ (n : ℕ). HasNames (name_of g (entry n)) (view q).seen) (sym (ended_version tells state offers s whole_tab e0 k.middle q ended k.ends))
        (ended_names tells state offers s whole_tab e0 k.middle q ended k.ends) in
        let its : Grows g.setting (view q) served l e.anchor x = grows g e l first served l begun_is (view q) names in
        let fresh : IsFresh (anchor_for g url) (closed_epoch ended) (view p) (view q) = fresh_from (began tells state offers s whole_tab k.began) (ended_fresh tells state offers s whole_tab e0 k.middle q ended k.ends) in
        let shows = shows_one r.setting.anchors (view p) (view q) served l url (is.at served) (closed_epoch ended) (shows_closed ended)
        (later_turn (let later = begun_later k.began.took (anchor_for g url) in let same = ended_version tells state offers s whole_tab e0 k.middle q ended k.ends in let its = closed_version ended in omega arith) fresh) in
        let finished : HasFinished r.setting (view q) served l x = record { anchor = e.anchor; grows = its } in
        let small = ended_small tells state offers s whole_tab e0 k.middle q ended k.ends (begun_small g e0 url body_is.url_is refl (λ far. not_long ended (long.1 far))) in
        record {
          drew = Some x;
          opened = 0;
          looked = 0;
          adds = adds_drawing r (view p) (view q) served l
              (drawn_above r.setting.anchors l (view p).seen x refl (λ b. let later = begun_later k.began.took b in let same = ended_version tells state offers s whole_tab e0 k.middle q ended k.ends in omega arith))
              (OfPutting g (name_of g e) (view q).seen ended)
              (serving.put tells state offers s whole_tab offer url durable p q k)
              (λ d. of_putting r (view q) served l d g (λ unfit. record { may = putting.evicts (answer_to_ended ended) (ended_evicts ended); wants = unfit }) (name_of g e) (view q).seen ended
              (record { anchor = record { url = url; named_is = is.named; anchor = refl }; drew = refl; began = putting.began_ended ended })
              (grows g e l first served l begun_is (view q)) refl)
              shows
              (tells_by r (view q) served l (ended_told r (view q) served l ended finished (small_of g told past e l first body_is.from served l begun_is small))
              (offering tells state offers s told past served (view q) l url body is body_is long (λ b f z. (shows b f z).seen) (putting.ended ended)
              (λ y z. record { version = x; drew = refl; began = putting.began_ended ended }) (putting.fits served) (ended_no_tab ended)))
              (λ y f bytes z. absurd (ended_no_part ended f bytes z));
          tracks = tracks_whole tells state offers s told past served p q l leaves free (putting.alone (answer_to_ended ended)) tracks;
        }

    was_given_up : (fault : WriteFault) → ((answer_to_fault fault ≡ answer.LongUrl) ↔ IsTooLong g url) → GaveUpPut tells state offers s whole_tab offer url durable p q fault
        → AddsLine tells state offers s told past served line p (answer_to_fault fault) q
    was_given_up fault long k =
        let x = k.version in
        let l = served_as line (answer_to_fault fault) (Some x) 0 0 in
        let e = entry x in
        let first = first_of (answer_to_fault fault) x in
        let begun_is = is.begun served l in
        let none = shows_none r.setting.anchors (view p) (view q) served l (shows_no_epoch fault) in
        let up = given_up g e l first served l begun_is (view q) (gave_up_seen tells state offers s whole_tab offer url durable p q fault k) in
        let many : answer_to_fault fault ≡ answer.Large → NeedsTooMany g (url_in g e) (body_in g e) =
        not_ended_large tells state offers s whole_tab (begun tells state offers s whole_tab offer url durable p k.middle k.version) k.middle q fault k.stopped in
        record {
          drew = Some x;
          opened = 0;
          looked = 0;
          adds = adds_drawing r (view p) (view q) served l (drawn_above r.setting.anchors l (view p).seen x refl (begun_later k.began.took)) (OfPuttingInVain g (name_of g e) (view q).seen)
              (serving.gave_up tells state offers s whole_tab offer url durable p q k)
              (λ d. of_putting_in_vain r (view q) served l d g (λ unfit. record { may = putting.evicts (answer_to_fault fault) (fault_evicts fault); wants = unfit }) (name_of g e) (view q).seen
              (record { anchor = record { url = url; named_is = is.named; anchor = refl }; drew = refl; began = putting.began_fault fault x })
              (grows g e l first served l begun_is (view q)) (halts g e l first served l begun_is (gives_up_fault fault)))
              none
              (tells_by r (view q) served l (fault_told r (view q) served l fault up (not_ended_unfit tells state offers s whole_tab (begun tells state offers s whole_tab offer url durable p k.middle k.version) k.middle q fault k.stopped) (λ z. large_of g told past e l first body_is.from served l begun_is (many z)))
              (offering tells state offers s told past served (view q) l url body is body_is long (λ b f z. (none b f z).seen) (putting.fault fault)
              (λ y z. record { version = x; drew = refl; began = putting.began_fault fault x }) (putting.fits served) (fault_no_tab fault)))
              (λ y f bytes z. absurd (fault_no_part fault f bytes z));
          tracks = tracks_whole tells state offers s told past served p q l leaves free (putting.alone (answer_to_fault fault)) tracks;
        }

    was_refused : (fault : BeginFault) → IsTyped (answer_to_refusal fault) → ((answer_to_refusal fault ≡ answer.LongUrl) ↔ IsTooLong g url) → NotPut tells state offers s whole_tab offer url durable p q (Begin fault)
        → AddsLine tells state offers s told past served line p (answer_to_refusal fault) q
    was_refused fault fit long k =
        let some = not_begun tells state offers s told past served line url body whole_tab p q tracks is body_is (putting.fits served) fault fit long k in
        record {
          drew = some.drew;
          opened = 0;
          looked = 0;
          adds = some.adds;
          tracks = tracks_whole tells state offers s told past served p q (served_as line (answer_to_refusal fault) some.drew 0 0) leaves free (putting.alone (answer_to_refusal fault)) tracks;
        }

    by_outcome : (a : Answer) (o : Result Ended PutFault) → IsTyped a → a ≡ answer_to_put o → ((a ≡ answer.LongUrl) ↔ IsTooLong g url)
        → IfOk o (λ ended. PutWhole tells state offers s whole_tab offer url durable p q ended) → IfErr o (λ fault. NotPut tells state offers s whole_tab offer url durable p q fault) → AddsLine tells state offers s told past served line p a q
    by_outcome a (Ok ended) fit at long ok err = subst (λ (z : Answer). AddsLine tells state offers s told past served line p z q) (sym at)
        (was_stored ended (subst (λ (z : Answer). (z ≡ answer.LongUrl) ↔ IsTooLong g url) at long) ok)
    by_outcome a (Err (Begin fault)) fit at long ok err = subst (λ (z : Answer). AddsLine tells state offers s told past served line p z q) (sym at)
        (was_refused fault (subst IsTyped at fit) (subst (λ (z : Answer). (z ≡ answer.LongUrl) ↔ IsTooLong g url) at long) err)
    by_outcome a (Err (Write fault)) fit at long ok err = subst (λ (z : Answer). AddsLine tells state offers s told past served line p z q) (sym at)
        (was_given_up fault (subst (λ (z : Answer). (z ≡ answer.LongUrl) ↔ IsTooLong g url) at long) err)

  pub put_adds : (a : Answer) → IsOffering line.request url body → IsPutting line.request → Tracks tells state offers s told past served p → Leaves tells state offers s whole_tab p q
      → IsOffered tells state offers s ((basis tells state offers s).setting.slots + line.number) url body → IsTyped a → Puts tells state offers s url p a q offer durable
      → AddsLine tells state offers s told past served line p a q
  put_adds a is putting tracks leaves body_is fit h = by_outcome tracks leaves h.free is putting body_is a h.outcome fit h.answer_is h.long h.stored h.refused
