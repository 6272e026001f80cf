-- A line that offers a body, of which no entry was begun.
use Rattle.std.proofs.Common.{Bool, Contains, List, None, Option, Some, ap, arith, inl, inr, refl, subst, sum_by, sym, ◌+◌, ◌<◌, ◌≡◌, ◌⊎◌, ⊎_elim, ℕ}
use Rattle.std.specs.Prelude.{◌↔◌}
use Rattle.lock_word.specs.Words.{epoch_number, word_number}
use Rattle.lock_word.specs.declared.word.Word.{Word}
use Rattle.rock_disk.specs.Cell.{CellState}
use Rattle.script_text.specs.declared.answer.Answer.{Answer}
use Rattle.script_text.specs.declared.answer.Answer.TheVariants as answer
use Rattle.script_text.specs.declared.body.Body.{Body}
use Rattle.script_text.specs.declared.line.Line.{Line}
use Rattle.core_model.specs.Tabs.{counts}
use Rattle.core_model.specs.declared.view.Kind.TheVariants.{Counted, Drew}
use Rattle.line_account.specs.Answers.{AreCounted, IsHeld, IsOvertaken, IsSpent, Run, readers_at}
use Rattle.line_account.specs.Courses.{Adds}
use Rattle.line_account.specs.Lines.{Fits, Served}
use Rattle.store_rule.specs.declared.store.Pass.{Pass}
use Rattle.store_rule.specs.declared.store.Store.{Store}
use Rattle.store_rule.specs.Ground.{Ground, Offers, anchor_for}
use Rattle.store_rule.specs.Passes.{basis, view}
use Rattle.store_rule.proofs.Passing.{pass_of}
use Rattle.rock_writer.specs.Beginning.{AreFresh, InUse, IsTooLong, NotTaken, Overtaken}
use Rattle.rock_writer.specs.declared.fault.BeginFault.{BeginFault}
use Rattle.rock_writer.specs.declared.fault.BeginFault.TheVariants.{Busy, LongUrl, Spent}
use Rattle.store_serve.specs.Acting.{Acted}
use Rattle.store_serve.specs.Deeds.{NoDeed}
use Rattle.store_serve.specs.Refusing.{CountedAll, DrewInVain}
use Rattle.store_serve.proofs.WriterDeeds.{not_taken}
use Rattle.store_serve.specs.Answers.{answer_to_refusal}
use Rattle.store_serve.specs.Tabs.{IsOffered}
use Rattle.worker_shelf.specs.Typed.{IsTyped}
use Rattle.crew_accounts.specs.Lines.{served_as}
use Rattle.crew_accounts.specs.Runs.{Past, run_of}
use Rattle.crew_accounts.specs.Tracks.{Tracks}
use Rattle.crew_accounts.proofs.Beginning.{busy_met}
use Rattle.crew_accounts.proofs.CallDeeds.{adds_drawing, adds_by}
use Rattle.crew_accounts.proofs.Offering.{IsOffering, offering}
use Rattle.crew_accounts.proofs.Readers.{readers_are}
use Rattle.crew_accounts.proofs.ReadersFound.{busy_counted}
use Rattle.crew_accounts.proofs.Shown.{anchor_at, shows_none, shows_two}
use Rattle.crew_accounts.proofs.TabLines.{IsMute}
use Rattle.crew_accounts.proofs.Telling.{tells_by}
use Rattle.crew_accounts.proofs.Turns.{found_turn, looked_turn}

pub refusals_are_mute : (fault : BeginFault) → IsMute (answer_to_refusal fault)
refusals_are_mute LongUrl = record { begun = refl; refused = refl; finished = refl; dropped = refl; opened = refl; closed = refl; bytes = refl; count = refl; last = refl }
refusals_are_mute (Busy looked found) = record { begun = refl; refused = refl; finished = refl; dropped = refl; opened = refl; closed = refl; bytes = refl; count = refl; last = refl }
refusals_are_mute (Spent versions) = record { begun = refl; refused = refl; finished = refl; dropped = refl; opened = refl; closed = refl; bytes = refl; count = refl; last = refl }

module _ {C O : Type 0} (tells : Bool) (state : C → CellState) (offers : O → Offers) (s : Store C O) (told : Bool) (past : Past) (served : List Served) (line : Line) (url : List ℕ) (body : Body) (t : ℕ) (p q : Pass C) where
  abbrev g : Ground (List ℕ)
  g = basis tells state offers s

  abbrev r : Run (List ℕ)
  r = run_of (basis tells state offers s) told past

  -- what the line adds, with some version that it drew, or none
  pub record AddsSome (a : Answer) : Type 0 where
    pub drew : Option ℕ
    pub adds : Adds (run_of (basis tells state offers s) told past) (view p) served (served_as line a drew 0 0) (view q)

  module _ (tracks : Tracks tells state offers s told past served p) (is : IsOffering line.request url body) (body_is : IsOffered tells state offers s ((basis tells state offers s).setting.slots + line.number) url body) (fits : Fits served line.request) where
    long_url : view q ≡ view p → ((answer.LongUrl ≡ answer.LongUrl) ↔ IsTooLong g url) → AddsSome answer.LongUrl
    long_url same long =
        let l = served_as line answer.LongUrl None 0 0 in
        let none = shows_none r.setting.anchors (view p) (view q) served l refl in
        record {
          drew = None;
          adds = adds_by r (view p) (view q) served l refl NoDeed (not_taken g t (anchor_for g url) (view p) LongUrl (view q) same) (λ d h. absurd h) none
              (tells_by r (view q) served l (record { url = url; named = is.named; long = long.0 refl; drew = refl })
              (offering tells state offers s told past served (view q) l url body is body_is long (λ b e k. (none b e k).seen) is.long (λ x k. absurd (is.not_long x k)) fits (λ z. cc)))
              (λ y e bytes z. absurd (let k : answer.LongUrl ≡ answer.Part e bytes = z in cc));
        }

    module _ (looked found : Word) (small : looked.readers < 65536) (low : found.readers < 65536) (long : (answer.Busy looked found ≡ answer.LongUrl) ↔ IsTooLong g url) where
      held : InUse g t (anchor_for g url) (view p) looked found (view q) ⊎ Overtaken g t (anchor_for g url) (view p) looked found (view q) → IsHeld looked found ⊎ IsOvertaken looked found
      held (inl h) = inl (record { same = h.same; vacant = h.used.0; idle = h.used.1 })
      held (inr h) = inr (record { able = h.open_to; differs = λ e. h.other (ap word_number e) })

      busy_with : (drew : Option ℕ) → Acted drew NoDeed (view p) (view q) → InUse g t (anchor_for g url) (view p) looked found (view q) ⊎ Overtaken g t (anchor_for g url) (view p) looked found (view q)
          → AreFresh g t (anchor_for g url) (view p) looked found (view q) → AddsSome (answer.Busy looked found)
      busy_with drew acted how fresh =
          let l = served_as line (answer.Busy looked found) drew 0 0 in
          let shows = shows_two r.setting.anchors (view p) (view q) served l url (is.at served) (epoch_number looked.epoch) (epoch_number found.epoch) refl
          (looked_turn g t (anchor_for g url) (view p) looked found (view q) small low how fresh) (found_turn g t (anchor_for g url) (view p) looked found (view q) small low how fresh) in
          let few = readers_are tells state offers s told past served p tracks (anchor_for g url) in
          record {
            drew = drew;
            adds = adds_drawing r (view p) (view q) served l (λ b c x k. absurd (is.not_busy looked found x k.began))
                NoDeed acted (λ d h. absurd h) shows
                (tells_by r (view q) served l
                (record {
                  cause = held how;
                  rises = fresh.order;
                  met = λ b at more.
                      let here = anchor_at r.setting.anchors _ url b (is.at served) at in
                      subst (Contains (view q).met) here (busy_met looked found (view q) small low how
                      (⊎_elim {C = (sum_by (counts (anchor_for g url)) (view p).tabs < looked.readers) ⊎ (sum_by (counts (anchor_for g url)) (view p).tabs < found.readers)}
                      (λ (m : readers_at r.setting.anchors served (anchor_for g url) < looked.readers). inl (omega arith))
                      (λ (m : readers_at r.setting.anchors served (anchor_for g url) < found.readers). inr (omega arith))
                      (subst (λ (c : ℕ). (readers_at r.setting.anchors served c < looked.readers) ⊎ (readers_at r.setting.anchors served c < found.readers)) (sym here) more)));
                  counted = λ b at. subst (λ (c : ℕ). AreCounted r.setting.passes (readers_at r.setting.anchors served c) looked.readers × AreCounted r.setting.passes (readers_at r.setting.anchors served c) found.readers)
                      (anchor_at r.setting.anchors _ url b (is.at served) at)
                      (subst (λ (c : ℕ). AreCounted r.setting.passes c looked.readers × AreCounted r.setting.passes c found.readers) few (busy_counted g t (anchor_for g url) (view p) (pass_of p) looked found small low (view q) how));
                })
                (offering tells state offers s told past served (view q) l url body is body_is long (λ b e k. (shows b e k).seen) (is.busy looked found) (λ x k. absurd (is.not_busy looked found x k)) fits (λ z. cc)))
                (λ y e bytes z. absurd (let k : answer.Busy looked found ≡ answer.Part e bytes = z in cc));
          }

    module _ (versions : ℕ) (long : (answer.Spent versions ≡ answer.LongUrl) ↔ IsTooLong g url) where
      spent_with : (drew : Option ℕ) → Acted drew NoDeed (view p) (view q) → IsSpent (view q) (served_as line (answer.Spent versions) drew 0 0) versions → AddsSome (answer.Spent versions)
      spent_with drew acted so =
          let l = served_as line (answer.Spent versions) drew 0 0 in
          let none = shows_none r.setting.anchors (view p) (view q) served l refl in
          record {
            drew = drew;
            adds = adds_drawing r (view p) (view q) served l (λ b c x k. absurd (is.not_spent versions x k.began))
                NoDeed acted (λ d h. absurd h) none
                (tells_by r (view q) served l so
                (offering tells state offers s told past served (view q) l url body is body_is long (λ b e k. (none b e k).seen) (is.spent versions) (λ x k. absurd (is.not_spent versions x k)) fits (λ z. cc)))
                (λ y e bytes z. absurd (let k : answer.Spent versions ≡ answer.Part e bytes = z in cc));
          }

      spent_how : CountedAll (view p) (view q) versions ⊎ DrewInVain (view p) (view q) versions → AddsSome (answer.Spent versions)
      spent_how (inl h) = spent_with None h.acted (record { offers = is.offers; limit = h.limit; found = inl (refl, record { item = record { kind = Counted; at = 0; found = versions }; among = h.found; kind_is = refl; found_is = refl }) })
      spent_how (inr h) = spent_with (Some (versions + 1)) h.acted (record { offers = is.offers; limit = h.limit; found = inr (refl, record { item = record { kind = Drew; at = 0; found = versions }; among = h.found; kind_is = refl; found_is = refl }) })

    pub not_begun : (fault : BeginFault) → IsTyped (answer_to_refusal fault) → ((answer_to_refusal fault ≡ answer.LongUrl) ↔ IsTooLong g url) → NotTaken g t (anchor_for g url) (view p) fault (view q) → AddsSome (answer_to_refusal fault)
    not_begun LongUrl fit long h = long_url h long
    not_begun (Busy looked found) fit long h = let acted = not_taken g t (anchor_for g url) (view p) (Busy looked found) (view q) h in busy_with looked found fit.0 fit.1 long acted.0 acted.1 h.0 h.1
    not_begun (Spent versions) fit long h = spent_how versions long (not_taken g t (anchor_for g url) (view p) (Spent versions) (view q) h)
