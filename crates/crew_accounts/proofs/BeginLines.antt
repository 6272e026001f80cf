-- A line that begins an entry on a tab.
use Rattle.std.proofs.Common.{arith, Bool, Err, List, None, Ok, Result, Some, false, inl, inr, refl, subst, sym, ⊎_elim, ◌+◌, ◌<◌, ◌∙◌, ◌≡◌, ℕ}
use Rattle.std.specs.Prelude.{◌↔◌}
use Rattle.std.specs.Result.{IfErr, IfOk, OnErr}
use Rattle.lock_word.specs.Words.{epoch_at}
use Rattle.rock_disk.specs.Cell.{CellState}
use Rattle.script_text.specs.declared.answer.Answer.{Answer}
use Rattle.script_text.specs.declared.answer.Answer.TheVariants as answer
use Rattle.script_text.specs.declared.body.Body.{Body}
use Rattle.script_text.specs.declared.line.Line.{Line}
use Rattle.script_text.specs.declared.request.Request.TheVariants.{Begin}
use Rattle.line_account.specs.Answers.{Run}
use Rattle.line_account.specs.Lines.{Served, reading, writing}
use Rattle.store_rule.specs.declared.store.Pass.{Pass}
use Rattle.store_rule.specs.declared.store.Store.{Store}
use Rattle.store_rule.specs.Ground.{Ground, Offers, anchor_for}
use Rattle.store_rule.specs.Passes.{basis, view}
use Rattle.rock_writer.specs.Beginning.{Began, IsTooLong, NotTaken, begun}
use Rattle.rock_writer.specs.declared.fault.BeginFault.{BeginFault}
use Rattle.store_serve.specs.Deeds.{OfBeginning}
use Rattle.store_serve.proofs.Counts as counts
use Rattle.store_serve.proofs.Slots.{named as naming_keeps}
use Rattle.store_serve.proofs.WriterDeeds.{began as began_acted}
use Rattle.store_serve.specs.Answers.{answer_to_begin, answer_to_refusal}
use Rattle.store_serve.specs.Tabs.{IsFree, IsOffered, IsTurnedAway, Leaves}
use Rattle.store_serve.specs.Whole.{whole_tab}
use Rattle.store_serve.specs.Writing.{Begins, BeginsOn}
use Rattle.worker_shelf.specs.Typed.{IsTyped}
use Rattle.crew_accounts.specs.Lines.{AddsLine, served_as}
use Rattle.crew_accounts.specs.Runs.{Past, run_of}
use Rattle.crew_accounts.specs.Tracks.{IsIdle, Tracks}
use Rattle.crew_accounts.proofs.Beginning.{begun_fresh, begun_later}
use Rattle.crew_accounts.proofs.CallDeeds.{adds_drawing, of_beginning}
use Rattle.crew_accounts.proofs.Dropping.{self_true}
use Rattle.crew_accounts.proofs.Fitting.{on_free}
use Rattle.crew_accounts.proofs.NotBegun.{not_begun, refusals_are_mute}
use Rattle.crew_accounts.proofs.Offering.{begins, offering}
use Rattle.crew_accounts.proofs.Running.{is_offered}
use Rattle.crew_accounts.proofs.Shown.{drawn_above, fresh_to, later_turn, shows_one}
use Rattle.crew_accounts.proofs.Small.{begun_small}
use Rattle.crew_accounts.proofs.TabLines.{elsewhere, mute, none_added, now_writes, reading_on, writing_on}
use Rattle.crew_accounts.proofs.Telling.{tells_by}
use Rattle.crew_accounts.proofs.Tracking.{tracks_on_tab}
use Rattle.crew_accounts.proofs.TurningAway.{away_adds}

module _ {C O : Type 0} (tells : Bool) (state : C → CellState) (offers : O → Offers) (s : Store C O) (told : Bool) (past : Past) (served : List Served) (worker number t : ℕ) (url : List ℕ) (body : Body) (p q : Pass C) (below : t < whole_tab) where
  abbrev g : Ground (List ℕ)
  g = basis tells state offers s

  abbrev r : Run (List ℕ)
  r = run_of (basis tells state offers s) told past

  abbrev line : Line
  line = record { worker = worker; number = number; request = Begin t url body }

  abbrev offer : ℕ
  offer = (basis tells state offers s).setting.slots + number

  module _ (tracks : Tracks tells state offers s told past served p) (leaves : Leaves tells state offers s t p q) (body_is : IsOffered tells state offers s offer url body) (h : IsIdle tells state offers s told past served p t) where
    was_begun : (version : ℕ) → ((answer.Begun version ≡ answer.LongUrl) ↔ IsTooLong g url) → Began tells state offers s t offer url false p q version → AddsLine tells state offers s told past served line p (answer.Begun version) q
    was_begun version long b =
        let l = served_as line (answer.Begun version) (Some version) 0 0 in
        let shows = shows_one r.setting.anchors (view p) (view q) served l url refl (epoch_at version 1) refl (later_turn (let later = begun_later b.took (anchor_for g url) in omega arith) (fresh_to (begun_fresh b.took) (naming_keeps b.named))) in
        record {
          drew = Some version;
          opened = 0;
          looked = 0;
          adds = adds_drawing r (view p) (view q) served l (drawn_above r.setting.anchors l (view p).seen version refl (begun_later b.took))
              (OfBeginning (anchor_for g url) version) (began_acted tells state offers s t b)
              (λ d. of_beginning r (view q) served l d (anchor_for g url) version (record { anchor = record { url = url; named_is = refl; anchor = refl }; drew = refl; began = refl }))
              shows
              (tells_by r (view q) served l tt
              (offering tells state offers s told past served (view q) l url body (begins t url body) body_is long (λ b e k. (shows b e k).seen) tt
              (λ x k. record { version = version; drew = refl; began = refl }) (h.writes, h.reads) (λ z. cc)))
              (λ y e bytes z. absurd (let k : answer.Begun version ≡ answer.Part e bytes = z in cc));
          tracks = tracks_on_tab tells state offers s told past served p q t l below leaves (λ j ne. elsewhere (Begin t url body) (answer.Begun version) j ne)
              (inr (inl (record {
                reads = h.reads;
                first = l;
                writes = now_writes t l served (self_true t);
                url = url;
                named = refl;
                entry = begun tells state offers s t offer url false p q version;
                is = b.writes;
                offer = refl;
                url_is = body_is.url_is;
                anchor = refl;
                drew = refl;
                taken = sym (none_added t l served (self_true t));
                shown = counts.began tells state offers s t offer url false p q version b;
                small = begun_small g (begun tells state offers s t offer url false p q version) url body_is.url_is refl
                    (λ far. let z : answer.Begun version ≡ answer.LongUrl = long.1 far in cc);
              }))) tracks;
        }

    was_refused : (fault : BeginFault) → IsTyped (answer_to_refusal fault) → ((answer_to_refusal fault ≡ answer.LongUrl) ↔ IsTooLong g url) → IsFree q t → NotTaken g t (anchor_for g url) (view p) fault (view q)
        → AddsLine tells state offers s told past served line p (answer_to_refusal fault) q
    was_refused fault fit long free b =
        let some = not_begun tells state offers s told past served line url body t p q tracks (begins t url body) body_is (h.writes, h.reads) fault fit long b in
        let l = served_as line (answer_to_refusal fault) some.drew 0 0 in
        let alone = mute (Begin t url body) (answer_to_refusal fault) t (refusals_are_mute fault) in
        record {
          drew = some.drew;
          opened = 0;
          looked = 0;
          adds = some.adds;
          tracks = tracks_on_tab tells state offers s told past served p q t l below leaves (λ j ne. elsewhere (Begin t url body) (answer_to_refusal fault) j ne)
              (inl (record { writes = writing_on t l served alone ∙ h.writes; reads = reading_on t l served alone ∙ h.reads; free = free })) tracks;
        }

    by_outcome : (a : Answer) (o : Result ℕ BeginFault) → IsTyped a → a ≡ answer_to_begin o → ((a ≡ answer.LongUrl) ↔ IsTooLong g url) → IfOk o (λ version. Began tells state offers s t offer url false p q version)
        → IfErr o (λ fault. NotTaken g t (anchor_for g url) (view p) fault (view q)) → OnErr o (IsFree q t) → AddsLine tells state offers s told past served line p a q
    by_outcome a (Ok version) fit is long ok err free = subst (λ (z : Answer). AddsLine tells state offers s told past served line p z q) (sym is)
        (was_begun version (subst (λ (z : Answer). (z ≡ answer.LongUrl) ↔ IsTooLong g url) is long) ok)
    by_outcome a (Err fault) fit is long ok err free = subst (λ (z : Answer). AddsLine tells state offers s told past served line p z q) (sym is)
        (was_refused fault (subst IsTyped is fit) (subst (λ (z : Answer). (z ≡ answer.LongUrl) ↔ IsTooLong g url) is long) free err)

  pub begin_adds : (a : Answer) → Tracks tells state offers s told past served p → Leaves tells state offers s t p q → IsOffered tells state offers s offer url body → IsTyped a → BeginsOn tells state offers s t p a q offer url
      → AddsLine tells state offers s told past served line p a q
  begin_adds a tracks leaves body_is fit met = ⊎_elim
      (λ (m : IsIdle tells state offers s told past served p t × Begins tells state offers s t p a q offer url).
      by_outcome tracks leaves body_is m.0 a m.1.outcome fit m.1.answer_is m.1.long m.1.began m.1.refused m.1.free)
      (λ (m : ((writing t served ≡ None) × (reading t served ≡ None) → ⊥) × IsTurnedAway p a q).
      away_adds tells state offers s told past served line p a q m.1 m.0 (λ u b k. is_offered tells state offers s told past (served_as line a None 0 0) url body body_is u b k) tracks)
      (on_free tells state offers s told past served p t a q (Begins tells state offers s t p a q offer url) met (tracks.each t below))
