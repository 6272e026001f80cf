-- A line that opens an entry on a tab.
use Rattle.std.proofs.Common.{Bool, Err, List, None, Ok, Result, Contains, arith, false, inl, inr, refl, subst, sym, true, ⊎_elim, ◌<◌, ◌∙◌, ◌≡◌, ◌≤◌, ◌∷◌, ℕ}
use Rattle.std.specs.Result.{IfErr, IfOk, OnErr}
use Rattle.lock_word.specs.Words.{epoch_number}
use Rattle.lock_word.specs.declared.cause.Cause.{Cause}
use Rattle.rock_disk.specs.Cell.{CellState}
use Rattle.script_text.specs.declared.answer.Answer.{Answer}
use Rattle.script_text.specs.declared.answer.Answer.TheVariants as answer
use Rattle.script_text.specs.declared.line.Line.{Line}
use Rattle.script_text.specs.declared.request.Request.TheVariants.{OpenTab}
use Rattle.core_model.specs.declared.moves.Side.TheVariants.{Offer}
use Rattle.core_model.specs.declared.view.Sight.TheVariants.{Named}
use Rattle.line_account.specs.Accounts.{epoch_in}
use Rattle.line_account.specs.Answers.{HasOpened, Run}
use Rattle.line_account.specs.Lines.{Served, reading, writing}
use Rattle.line_account.specs.Stopping.{answered_more, is_end, is_halted, is_other_url}
use Rattle.store_rule.specs.declared.store.Pass.{Pass}
use Rattle.store_rule.specs.declared.store.Store.{Store}
use Rattle.store_rule.specs.Ground.{Ground, Offers, anchor_for}
use Rattle.store_rule.specs.Passes.{basis, view}
use Rattle.rock_reader.specs.Opening.{OpenedEntry, Refused}
use Rattle.rock_reader.specs.Reading.{ReadsAs, newly}
use Rattle.store_serve.specs.Deeds.{Enters, OfVisiting}
use Rattle.store_serve.proofs.ReaderDeeds as reader
use Rattle.store_serve.specs.Answers.{answer_to_open}
use Rattle.store_serve.specs.Reading.{Opens, OpensOn}
use Rattle.store_serve.specs.Tabs.{IsFree, IsTurnedAway, Leaves}
use Rattle.store_serve.specs.Whole.{whole_tab}
use Rattle.worker_shelf.specs.Typed.{IsTyped, TellsKey}
use Rattle.crew_accounts.specs.Lines.{AddsLine, served_as}
use Rattle.crew_accounts.specs.Runs.{Past, run_of}
use Rattle.crew_accounts.specs.Tracks.{IsIdle, Tracks}
use Rattle.crew_accounts.proofs.CallDeeds.{adds_by, of_visiting}
use Rattle.crew_accounts.proofs.Coming.{refused}
use Rattle.crew_accounts.proofs.Dropping.{self_true}
use Rattle.crew_accounts.proofs.Fitting.{on_free}
use Rattle.crew_accounts.proofs.Opened.{one_offer, opened_entry, opened_new, version_is}
use Rattle.crew_accounts.proofs.Shown.{shows_one}
use Rattle.crew_accounts.proofs.TabLines.{IsMute, elsewhere, mute, none_answered, none_given, now_reads, reading_on, writing_on}
use Rattle.crew_accounts.proofs.Telling.{no_more, plain, tells_by}
use Rattle.crew_accounts.proofs.Tracking.{tracks_on_tab}
use Rattle.crew_accounts.proofs.TurningAway.{away_adds}
use Rattle.crew_accounts.proofs.Turns.{came_turn}

both : (b : Bool) → b ≡ true → b ≡ false → ⊥
both b e f = let z : true ≡ false = sym e ∙ f in cc

miss_is_mute : (c : Cause) → IsMute (answer.Miss c)
miss_is_mute c = record { begun = refl; refused = refl; finished = refl; dropped = refl; opened = refl; closed = refl; bytes = refl; count = refl; last = refl }

module _ {C O : Type 0} (tells : Bool) (state : C → CellState) (offers : O → Offers) (s : Store C O) (told : Bool) (past : Past) (served : List Served) (worker number t : ℕ) (url : List ℕ) (p q : Pass C) (below : t < whole_tab) where
  abbrev g : Ground (List ℕ)
  g = basis tells state offers s

  abbrev r : Run (List ℕ)
  r = run_of (basis tells state offers s) told past

  abbrev line : Line
  line = record { worker = worker; number = number; request = OpenTab t url }

  module _ (tracks : Tracks tells state offers s told past served p) (leaves : Leaves tells state offers s t p q) (h : IsIdle tells state offers s told past served p t) where
    was_opened : (version : ℕ) → OpenedEntry g t url (view p) version (view q) → (offer : ℕ) × ReadsAs tells state offers s q t (newly (anchor_for g url) version offer url) → AddsLine tells state offers s told past served line p (answer.Opened version) q
    was_opened version k reads =
        let l = served_as line (answer.Opened version) None (epoch_number k.epoch) 0 in
        let shows = shows_one r.setting.anchors (view p) (view q) served l url refl (epoch_number k.epoch) refl (came_turn g k.came) in
        let same = version_is g told past t url (view p) (view q) version k in
        let entry = opened_entry g told past t url (view p) (view q) version k in
        let agrees : k.accepted.offer ≡ reads.0 = one_offer g (view q) reads.1.own.stands (anchor_for g url) version k.accepted.offer reads.0 (subst (λ (n : ℕ). Contains (view q).seen (Named (anchor_for g url) n Offer k.accepted.offer)) same entry.offered) reads.1.offer_seen in
        let opened : HasOpened r (view q) l = record { url = url; named = refl; entry = entry; told = sym same } in
        record {
          drew = None;
          opened = epoch_number k.epoch;
          looked = 0;
          adds = adds_by r (view p) (view q) served l refl (Enters (anchor_for g url)) (reader.opened g t k)
              (λ d z. of_visiting r (view q) served l d (anchor_for g url) (record { url = url; comes = refl; anchor = refl }) (inl z))
              shows
              (tells_by r (view q) served l tt (record {
                shown = λ b e z. (shows b e z).seen;
                answers = tt;
                drew = λ n. absurd (n refl);
                began = λ x z. absurd z;
                opened = λ x z. opened;
                short = λ u body z. absurd z;
                offered = λ u body z. absurd z;
                tab = ((λ z. cc), (λ n. absurd (n (h.writes, h.reads))));
                stays = no_more r (view q) served l (λ j e. cc);
              }))
              (λ y e bytes z. absurd (let c : answer.Opened version ≡ answer.Part e bytes = z in cc));
          tracks = tracks_on_tab tells state offers s told past served p q t l below leaves (λ j ne. elsewhere (OpenTab t url) (answer.Opened version) j ne)
              (inr (inr (record {
                writes = h.writes;
                first = l;
                reads = now_reads t l served (self_true t);
                standing = newly (anchor_for g url) version reads.0 url;
                is = reads.1;
                named = refl;
                anchor = refl;
                version = same;
                entry = entry;
                offer = agrees;
                new = λ high. subst (λ (n : ℕ). g.setting.slots ≤ n) agrees (opened_new g told past t url (view p) (view q) version k high);
                given = λ y z. none_given t l served (self_true t);
                none = λ y z. absurd (let c : false ≡ true = z in cc);
                other = λ y z. absurd (let c : false ≡ true = z in cc);
                shown = λ some. absurd (omega arith);
                ended = λ z. absurd (both (answered_more is_end t (l ∷ served)) z (none_answered t l served is_end (self_true t)));
                turned = λ z. absurd (both (answered_more is_other_url t (l ∷ served)) z (none_answered t l served is_other_url (self_true t)));
                halted = λ z. absurd (both (answered_more is_halted t (l ∷ served)) z (none_answered t l served is_halted (self_true t)));
              }))) tracks;
        }

    was_refused : (c : Cause) → TellsKey c → IsFree q t → Refused g t url (view p) c (view q) → AddsLine tells state offers s told past served line p (answer.Miss c) q
    was_refused c fit free k =
        let l = served_as line (answer.Miss c) None 0 0 in
        let refusal = refused g told past served l url refl refl (view p) (view q) c t fit k in
        let shows = shows_one r.setting.anchors (view p) (view q) served l url refl (epoch_number (epoch_in c)) refl refusal.turn in
        let alone = mute (OpenTab t url) (answer.Miss c) t (miss_is_mute c) in
        record {
          drew = None;
          opened = 0;
          looked = 0;
          adds = adds_by r (view p) (view q) served l refl (OfVisiting (anchor_for g url)) (reader.refused g t url (view p) c (view q) k)
              (λ d. of_visiting r (view q) served l d (anchor_for g url) (record { url = url; comes = refl; anchor = refl }))
              shows
              (tells_by r (view q) served l refusal.cause
              (plain r (view q) served l (no_more r (view q) served l (λ j e. cc)) (λ b e z. (shows b e z).seen) tt refl (λ x z. z) (λ x z. z) (λ u body z. z) (h.writes, h.reads) (λ z. cc)))
              (λ y e bytes z. absurd (let d : answer.Miss c ≡ answer.Part e bytes = z in cc));
          tracks = tracks_on_tab tells state offers s told past served p q t l below leaves (λ j ne. elsewhere (OpenTab t url) (answer.Miss c) j ne)
              (inl (record { writes = writing_on t l served alone ∙ h.writes; reads = reading_on t l served alone ∙ h.reads; free = free })) tracks;
        }

    by_outcome : (a : Answer) (o : Result ℕ Cause) → IsTyped a → a ≡ answer_to_open o → IfOk o (λ version. OpenedEntry g t url (view p) version (view q))
        → IfOk o (λ version. (offer : ℕ) × ReadsAs tells state offers s q t (newly (anchor_for g url) version offer url)) → IfErr o (λ c. Refused g t url (view p) c (view q)) → OnErr o (IsFree q t)
        → AddsLine tells state offers s told past served line p a q
    by_outcome a (Ok version) fit is ok reads err free = subst (λ (z : Answer). AddsLine tells state offers s told past served line p z q) (sym is) (was_opened version ok reads)
    by_outcome a (Err c) fit is ok reads err free = subst (λ (z : Answer). AddsLine tells state offers s told past served line p z q) (sym is) (was_refused c (subst IsTyped is fit) free err)

  pub open_adds : (a : Answer) → Tracks tells state offers s told past served p → Leaves tells state offers s t p q → IsTyped a → OpensOn tells state offers s t p a q url → AddsLine tells state offers s told past served line p a q
  open_adds a tracks leaves fit met = ⊎_elim
      (λ (m : IsIdle tells state offers s told past served p t × Opens tells state offers s t p a q url).
      by_outcome tracks leaves m.0 a m.1.outcome fit m.1.answer_is m.1.opened m.1.reads m.1.refused m.1.free)
      (λ (m : ((writing t served ≡ None) × (reading t served ≡ None) → ⊥) × IsTurnedAway p a q).
      away_adds tells state offers s told past served line p a q m.1 m.0 (λ u body z. absurd z) tracks)
      (on_free tells state offers s told past served p t a q (Opens tells state offers s t p a q url) met (tracks.each t below))
