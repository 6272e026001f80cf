-- A line that gets the entry of a URL.
use Rattle.std.proofs.Common.{Bool, Contains, List, None, Some, ap, arith, inl, inr, refl, subst, sym, ◌<◌, ◌∙◌, ◌≡◌, ◌≤◌, ◌⊎◌, ℕ}
use Rattle.std.specs.Prelude.{IsTrue}
use Rattle.lock_word.specs.Words.{epoch_number, version_of}
use Rattle.lock_word.specs.declared.cause.Cause.{Cause}
use Rattle.lock_word.specs.declared.epoch.Epoch.{Epoch}
use Rattle.lock_word.specs.declared.stage.Stage.{Stage}
use Rattle.lock_word.proofs.Parts.{version_of-epoch_number}
use Rattle.rock_disk.specs.Cell.{CellState}
use Rattle.script_text.specs.declared.answer.Answer.{Answer}
use Rattle.script_text.specs.declared.answer.Answer.TheVariants as answer
use Rattle.script_text.specs.declared.line.Line.{Line}
use Rattle.script_text.specs.declared.request.Request.TheVariants.{Get}
use Rattle.store_key.specs.Key.{key_of}
use Rattle.store_key.specs.Url.{IsUrl}
use Rattle.entry_cut.specs.Content.{count}
use Rattle.core_model.specs.Anchors.{opening_counter}
use Rattle.core_model.specs.Layout.{word_in}
use Rattle.core_model.specs.declared.moves.Side.TheVariants.{Offer}
use Rattle.core_model.specs.declared.view.Place.TheVariants.{Beside}
use Rattle.core_model.specs.declared.view.Sight.TheVariants.{Named, Published, Stood}
use Rattle.line_account.specs.Accounts.{epoch_in}
use Rattle.line_account.specs.Answers.{IsPart, ComesIn, HasGiven, HasHit, HasOpened, HasOther, HasPart, IsEntryAt, IsOfOpened, IsSure, IsWhole, Run}
use Rattle.store_serve.specs.Growing.{GrowsTo}
use Rattle.line_account.specs.Lines.{Served, bytes_in}
use Rattle.line_account.specs.Requests.{IsAnswerTo}
use Rattle.store_rule.specs.declared.store.Pass.{Pass}
use Rattle.store_rule.specs.declared.store.Store.{Store}
use Rattle.store_rule.specs.Ground.{Ground, Offers, anchor_for, cut_of}
use Rattle.store_rule.specs.Passes.{basis, view}
use Rattle.rock_reader.specs.Opening.{Refused}
use Rattle.rock_reader.specs.Reading.{Standing, StaysOther, TurnsOut, newly}
use Rattle.rock_reader.specs.Responses.{body_below, pieces_of}
use Rattle.rock_reader.specs.declared.answer.More.{More}
use Rattle.rock_reader.specs.declared.answer.More.TheVariants as more
use Rattle.store_serve.specs.Getting.{GotAs, GotEntry}
use Rattle.store_serve.specs.declared.getting.Got.{Got}
use Rattle.store_serve.specs.declared.getting.Got.TheVariants.{Found, Missing}
use Rattle.store_serve.specs.Deeds.{OfVisiting}
use Rattle.store_serve.proofs.Grown.{on}
use Rattle.store_serve.proofs.ReaderDeeds as reader
use Rattle.store_serve.proofs.Readers.{gave, opened as opening_keeps, parted}
use Rattle.store_serve.proofs.ServingDeeds as serving
use Rattle.store_serve.specs.Answers.{AnswersGet, AnswersWhole}
use Rattle.store_serve.specs.Tabs.{IsFree, Leaves}
use Rattle.store_serve.specs.Whole.{Gets, whole_tab}
use Rattle.worker_shelf.specs.Typed.{IsTyped, TellsKey}
use Rattle.crew_accounts.specs.Lines.{AddsLine, served_as}
use Rattle.crew_accounts.specs.Runs.{IsTold, Past, run_of}
use Rattle.crew_accounts.specs.Tracks.{IsOtherUrl, Tracks}
use Rattle.crew_accounts.proofs.CallDeeds.{adds_by, of_visiting}
use Rattle.crew_accounts.proofs.Coming.{refused}
use Rattle.crew_accounts.proofs.GivenBytes.{IsGrowing, IsFromFront, all_of_it, given_of, gives_bytes, known, part_of}
use Rattle.crew_accounts.proofs.MoreLines.{at_stage, one_bool, same_line, same_part}
use Rattle.crew_accounts.proofs.Opened.{one_offer, opened_entry, opened_new, version_is}
use Rattle.crew_accounts.proofs.OtherUrls.{entry_key, other_url}
use Rattle.crew_accounts.proofs.ReadingOn.{ReadOn, gives_on}
use Rattle.crew_accounts.proofs.Shown.{IsInTurn, ShowsInTurn, shows_none, shows_one, turn_from, turn_to}
use Rattle.crew_accounts.proofs.TabLines.{get_alone}
use Rattle.crew_accounts.proofs.Telling.{ToTell, no_more, plain, tells_by}
use Rattle.crew_accounts.proofs.Tracking.{entry_moved, entry_on, tracks_whole}
use Rattle.crew_accounts.proofs.Turns.{came_turn, waits_turn}
use Rattle.crew_accounts.proofs.Waiting.{grown_version}
use Rattle.crew_accounts.proofs.WaitsAt.{waits_more, waits_some}

module _ {C O : Type 0} (tells : Bool) (state : C → CellState) (offers : O → Offers) (s : Store C O) (told : Bool) (past : Past) (served : List Served) (worker number : ℕ) (url : List ℕ) (p q : Pass C) (from : IsFromFront) (told_so : IsTrue told → IsTold (basis tells state offers s) told past tells) where
  abbrev g : Ground (List ℕ)
  g = basis tells state offers s

  abbrev r : Run (List ℕ)
  r = run_of (basis tells state offers s) told past

  abbrev line : Line
  line = record { worker = worker; number = number; request = Get url }

  module _ (tracks : Tracks tells state offers s told past served p) (leaves : Leaves tells state offers s whole_tab p q) (free : IsFree q whole_tab) where
    was_refused : (c : Cause) → TellsKey c → Refused g whole_tab url (view p) c (view q) → AddsLine tells state offers s told past served line p (answer.Miss c) q
    was_refused c fit k =
        let l = served_as line (answer.Miss c) None 0 0 in
        let refusal = refused g told past served l url refl refl (view p) (view q) c whole_tab fit k in
        let shows = shows_one r.setting.anchors (view p) (view q) served l url refl (epoch_number (epoch_in c)) refl refusal.turn in
        record {
          drew = None;
          opened = 0;
          looked = 0;
          adds = adds_by r (view p) (view q) served l refl (OfVisiting (anchor_for g url)) (reader.refused g whole_tab url (view p) c (view q) k)
              (λ d. of_visiting r (view q) served l d (anchor_for g url) (record { url = url; comes = refl; anchor = refl }))
              shows
              (tells_by r (view q) served l refusal.cause
              (plain r (view q) served l (no_more r (view q) served l (λ j e. cc)) (λ b e z. (shows b e z).seen) tt refl (λ x z. z) (λ x z. z) (λ u body z. z) tt (λ z. cc)))
              (λ y e gave z. absurd (let w : answer.Miss c ≡ answer.Part e gave = z in cc));
          tracks = tracks_whole tells state offers s told past served p q l leaves free (get_alone url (answer.Miss c)) tracks;
        }

    module _ (version : ℕ) (ended : More) (bytes : List ℕ) (k : GotEntry tells state offers s whole_tab url p q bytes version ended) where
      so : ReadOn tells state offers s whole_tab (newly (anchor_for g url) version k.offer url) k.opened k.went.standing k.went.middle
      so = gives_on tells state offers s whole_tab (newly (anchor_for g url) version k.offer url) k.opened k.went.calls k.went.standing k.went.middle bytes k.reads k.went.gives

      ended_keeps : GrowsTo (view k.went.middle) (view k.read)
      ended_keeps = gave tells state offers s whole_tab k.went.standing k.went.middle k.went.before k.went.after k.read ended k.went.ends

      parted_keeps : GrowsTo (view k.read) (view q)
      parted_keeps = parted g whole_tab (view k.read) (view q) k.parted

      since_opened : GrowsTo (view k.opened) (view q)
      since_opened = on so.keeps (on ended_keeps parted_keeps)

      -- an epoch that was found behind the pieces, and that at which the entry was opened
      found_turn : (e : ℕ) → IsInTurn k.went.standing.anchor e (view k.went.middle) (view k.read) → IsInTurn (anchor_for g url) e (view p) (view q)
      found_turn e turn = subst (λ (b : ℕ). IsInTurn b e (view p) (view q)) so.entry.anchor (turn_to (turn_from (on (opening_keeps g whole_tab k.opens) so.keeps) turn) parted_keeps)

      opened_turn : IsInTurn (anchor_for g url) (epoch_number k.opens.epoch) (view p) (view q)
      opened_turn = turn_to (came_turn g k.opens.came) since_opened

      same : version_of (epoch_number k.opens.epoch) ≡ version
      same = version_is g told past whole_tab url (view p) (view k.opened) version k.opens

      entry : (k2 : IsEntryAt r (view q) (anchor_for g url) (epoch_number k.opens.epoch) url) × (k2.offer ≡ k.opens.accepted.offer)
      entry = entry_on r (view k.opened) (view q) (anchor_for g url) (epoch_number k.opens.epoch) url since_opened (opened_entry g told past whole_tab url (view p) (view k.opened) version k.opens)

      offer_is : entry.0.offer ≡ k.offer
      offer_is = entry.1 ∙ one_offer g (view k.opened) k.reads.own.stands (anchor_for g url) version k.opens.accepted.offer k.offer
          (subst (λ (n : ℕ). Contains (view k.opened).seen (Named (anchor_for g url) n Offer k.opens.accepted.offer)) same (opened_entry g told past whole_tab url (view p) (view k.opened) version k.opens).offered) k.reads.offer_seen

      add_it : (a : Answer) (looked : ℕ) → ShowsInTurn r.setting.anchors (view p) (view q) served (served_as line a None (epoch_number k.opens.epoch) looked) → ToTell r (view q) served (served_as line a None (epoch_number k.opens.epoch) looked) a
          → (IsTrue r.tells → (e : Epoch) (gave : List ℕ) → a ≡ answer.Part e gave → HasPart r (view p) (view q) served (served_as line a None (epoch_number k.opens.epoch) looked) (epoch_number e))
          → IsAnswerTo (Get url) a → ComesIn (Get url) a (version_of (epoch_number k.opens.epoch)) → (a ≡ answer.Tab → ⊥) → AddsLine tells state offers s told past served line p a q
      add_it a looked shows to parts may comes no_tab =
          let l = served_as line a None (epoch_number k.opens.epoch) looked in
          let opened : HasOpened r (view q) l = record { url = url; named = refl; entry = entry.0; told = comes } in
          record {
            drew = None;
            opened = epoch_number k.opens.epoch;
            looked = looked;
            adds = adds_by r (view p) (view q) served l refl (OfVisiting (anchor_for g url)) (serving.got tells state offers s whole_tab url p q bytes (Found version ended) k)
                (λ d. of_visiting r (view q) served l d (anchor_for g url) (record { url = url; comes = refl; anchor = refl }))
                shows
                (tells_by r (view q) served l to (record {
                  shown = λ b e z. (shows b e z).seen;
                  answers = may;
                  drew = λ n. absurd (n refl);
                  began = λ x z. absurd z;
                  opened = λ x z. opened;
                  short = λ u body z. absurd z;
                  offered = λ u body z. absurd z;
                  tab = ((λ z. absurd (no_tab z)), (λ n. absurd (n tt)));
                  stays = no_more r (view q) served l (λ j e. cc);
                }))
                parts;
            tracks = tracks_whole tells state offers s told past served p q l leaves free (get_alone url a) tracks;
          }

      -- What was read, and where the tab was then.
      abbrev f : Standing
      f = k.went.standing

      anchor_is : f.anchor ≡ anchor_for g f.url
      anchor_is = so.entry.anchor ∙ ap (anchor_for g) (sym so.entry.url)

      version_same : version_of (epoch_number k.opens.epoch) ≡ f.version
      version_same = same ∙ sym so.entry.version

      entry_at : (k2 : IsEntryAt r (view q) f.anchor (epoch_number k.opens.epoch) f.url) × (k2.offer ≡ entry.0.offer)
      entry_at = entry_moved r (view q) (anchor_for g url) f.anchor (epoch_number k.opens.epoch) url f.url (sym so.entry.anchor) (sym so.entry.url) entry.0

      offer_at : entry_at.0.offer ≡ f.offer
      offer_at = entry_at.1 ∙ offer_is ∙ sym so.entry.offer

      new : opening_counter g.setting < f.version → g.setting.slots ≤ f.offer
      new high = subst (λ (n : ℕ). g.setting.slots ≤ n) (sym entry.1 ∙ offer_is ∙ sym so.entry.offer)
          (opened_new g told past whole_tab url (view p) (view k.opened) version k.opens (subst (λ (n : ℕ). opening_counter g.setting < n) so.entry.version high))

      old : f.version ≤ opening_counter g.setting → f.offer ≡ word_in g.setting g.setting.words (Beside Offer f.anchor)
      old low = sym offer_at ∙ entry_at.0.old (let v = version_same in omega arith)

      of_opened : (a : Answer) (looked e : ℕ) → version_of e ≡ f.version → IsOfOpened served (served_as line a None (epoch_number k.opens.epoch) looked) e
      of_opened a looked e its first opened_is =
          its ∙ sym version_same ∙ ap (λ (z : Served). version_of z.opened) (same_line (served_as line a None (epoch_number k.opens.epoch) looked) first opened_is)

      gave_all : IsTrue told → bytes ≡ body_below g f.anchor f.offer f.place
      gave_all y = gives_bytes tells state offers s told past (told_so y) y whole_tab (newly (anchor_for g url) version k.offer url) k.opened k.went.calls f k.went.middle bytes k.reads k.went.gives
          ∙ (λ i. body_below g (sym so.entry.anchor i) (sym so.entry.offer i) f.place)

      shown : 0 < f.place → Contains (view q).seen (Published f.anchor f.version f.place)
      shown some = (on ended_keeps parted_keeps).seen _ (so.seen (λ (z : 0 < 0). absurd (omega arith)) some)

      module _ (a : Answer) (looked : ℕ) (is : bytes_in a ≡ bytes) where
        abbrev l : Served
        l = served_as line a None (epoch_number k.opens.epoch) looked

        has_given : IsTrue told → (IsSure a → 0 < f.place) → (IsWhole a → (0 < f.place) × (f.place ≡ pieces_of g f.anchor f.offer)) → (IsPart a → IsGrowing g f) → HasGiven r (view q) served l
        has_given y sure whole part = given_of tells state offers s told past (told_so y) y whole_tab k.went.middle f so.reads so.other new old from (view q) served l l refl (ap Some (sym so.entry.url)) anchor_is version_same entry_at.0 offer_at
            (is ∙ gave_all y) shown sure whole part

        has_part : IsTrue told → (e : ℕ) → (IsSure a → 0 < f.place) → (IsWhole a → ⊥) → version_of e ≡ f.version → Contains (view q).seen (Stood f.anchor e) → 0 < f.place → g.setting.slots ≤ f.offer → f.place < count (cut_of g f.offer 0 0)
            → ((n : ℕ) → Contains (view p).seen (Published f.anchor f.version n) → n ≤ f.place) → HasPart r (view p) (view q) served l e
        has_part y e sure whole its seen some high more least = part_of tells state offers s told past (told_so y) y whole_tab k.went.middle f so.reads so.other new old from (view q) served l l refl (ap Some (sym so.entry.url)) anchor_is version_same entry_at.0 offer_at
            (is ∙ gave_all y) shown sure (λ z. absurd (whole z)) (view p) e its seen some high more least

      has_hit : (a : Answer) (looked : ℕ) → ComesIn (Get url) a (version_of (epoch_number k.opens.epoch)) → IsTrue told → 0 < f.place → f.place ≡ pieces_of g f.anchor f.offer → HasHit r (view q) (served_as line a None (epoch_number k.opens.epoch) looked) bytes
      has_hit a looked comes y some all =
          let same_offer : f.offer ≡ entry.0.offer = so.entry.offer ∙ sym offer_is in
          record {
            opened = record { url = url; named = refl; entry = entry.0; told = comes };
            whole = gave_all y ∙ all_of_it tells state offers s told past (told_so y) y whole_tab k.went.middle f so.reads so.other new old from some all ∙ ap r.body same_offer;
            same = ap r.url (sym same_offer) ∙ (known tells state offers s told past (told_so y) y whole_tab k.went.middle f so.reads so.other new old some).url_is ∙ so.entry.url;
          }

      -- it turned out to be of another URL
      is_other_url : StaysOther tells state offers s whole_tab k.went.middle f k.went.before k.went.after k.read ⊎ TurnsOut tells state offers s whole_tab k.went.middle f k.went.before k.went.after k.read → IsTrue told → IsOtherUrl r f
      is_other_url (inl w) y = absurd (one_bool f.is_other w.was so.other)
      is_other_url (inr w) y = other_url tells state offers s told past (told_so y) y whole_tab k.went.middle f so.reads
          (entry_key r (view k.went.middle) (anchor_for g url) (epoch_number k.opens.epoch) url f
          (entry_on r (view k.opened) (view k.went.middle) (anchor_for g url) (epoch_number k.opens.epoch) url so.keeps (opened_entry g told past whole_tab url (view p) (view k.opened) version k.opens)).0
          (sym so.entry.anchor) version_same (sym so.entry.url))
          (w.url ((told_so y).cells y) ((told_so y).file y)).1

      has_other : (looked : ℕ) → IsOtherUrl r f → HasOther r (view q) served (served_as line answer.OtherUrl None (epoch_number k.opens.epoch) looked)
      has_other looked other =
          let offer : entry.0.offer ≡ f.offer = offer_is ∙ sym so.entry.offer in
          record {
            first = served_as line answer.OtherUrl None (epoch_number k.opens.epoch) looked;
            opened_is = refl;
            url = url;
            named = refl;
            entry = entry.0;
            good = subst (λ (o : ℕ). IsUrl (r.url o)) (sym offer) other.good;
            same_key = ap (λ (o : ℕ). key_of (r.url o)) offer ∙ other.same_key ∙ ap key_of so.entry.url;
            differs = λ z. other.differs (ap r.url (sym offer) ∙ z ∙ sym so.entry.url);
          }

    by_ending : (version : ℕ) (ended : More) (bytes : List ℕ) (a : Answer) → GotEntry tells state offers s whole_tab url p q bytes version ended → AnswersWhole version ended bytes a → AddsLine tells state offers s told past served line p a q
    by_ending version (more.Piece count) bytes a k is = absurd is
    by_ending version (more.NotYet epoch) bytes a k is =
        let w = k.went.ends.waits in
        let l = served_as line (answer.Part epoch bytes) None (epoch_number k.opens.epoch) 0 in
        let on_it = so version (more.NotYet epoch) bytes k in
        let some = waits_some tells state offers s whole_tab k.went.middle k.read k.went.standing k.went.before k.went.after epoch on_it.reads w in
        let stage = at_stage epoch Stage.Appending k.went.ends.grows in
        let its : version_of (epoch_number epoch) ≡ k.went.standing.version = version_of-epoch_number epoch ∙ w.version_is in
        let high = subst (λ (n : ℕ). opening_counter g.setting < n) its (grown_version g (view k.read) k.went.standing.anchor (epoch_number epoch) k.went.ends.stays.own.stands w.fresh.seen stage) in
        subst (λ (z : Answer). AddsLine tells state offers s told past served line p z q) (sym is)
        (add_it version (more.NotYet epoch) bytes k (answer.Part epoch bytes) 0
        (shows_one r.setting.anchors (view p) (view q) served l url refl (epoch_number epoch) refl (found_turn version (more.NotYet epoch) bytes k (epoch_number epoch)
        (waits_turn tells state offers s whole_tab k.went.middle k.read k.went.standing k.went.before k.went.after epoch on_it.reads w))) (
          stage,
          of_opened version (more.NotYet epoch) bytes k (answer.Part epoch bytes) 0 (epoch_number epoch) its,
          (λ y. has_given version (more.NotYet epoch) bytes k (answer.Part epoch bytes) 0 refl y (λ z. some) (λ z. absurd z) (λ z. (
            some,
            new version (more.NotYet epoch) bytes k high,
            waits_more tells state offers s whole_tab k.went.middle k.read k.went.standing k.went.before k.went.after epoch on_it.reads w high,
          ))),
        )
        (λ y e gave z. subst (λ (x : Epoch). HasPart r (view p) (view q) served l (epoch_number x)) (same_part epoch e bytes gave z)
        (has_part version (more.NotYet epoch) bytes k (answer.Part epoch bytes) 0 refl y (epoch_number epoch) (λ x. some) (λ x. x) its ((parted_keeps version (more.NotYet epoch) bytes k).seen _ w.fresh.seen) some (new version (more.NotYet epoch) bytes k high)
        (waits_more tells state offers s whole_tab k.went.middle k.read k.went.standing k.went.before k.went.after epoch on_it.reads w high)
        (λ n c. w.published n ((on (on (opening_keeps g whole_tab k.opens) on_it.keeps) (ended_keeps version (more.NotYet epoch) bytes k)).seen _ c))))
        tt
        (version_of-epoch_number epoch ∙ w.version_is ∙ on_it.entry.version ∙ sym (same version (more.NotYet epoch) bytes k)) (λ z. cc))
    by_ending version more.End bytes a k is =
        let w = k.went.ends in
        let l = served_as line (answer.Hit version bytes) None (epoch_number k.opens.epoch) 0 in
        let comes = sym (same version more.End bytes k) in
        subst (λ (z : Answer). AddsLine tells state offers s told past served line p z q) (sym is)
        (add_it version more.End bytes k (answer.Hit version bytes) 0
        (shows_one r.setting.anchors (view p) (view q) served l url refl (epoch_number k.opens.epoch) refl (opened_turn version more.End bytes k))
        (λ y. (has_hit version more.End bytes k (answer.Hit version bytes) 0 comes y w.some w.all, has_given version more.End bytes k (answer.Hit version bytes) 0 refl y (λ z. w.some) (λ z. (w.some, w.all)) (λ z. absurd z)))
        (λ y e gave z. absurd (let x : answer.Hit version bytes ≡ answer.Part e gave = z in cc)) tt comes (λ z. cc))
    by_ending version more.Halted bytes a k is =
        let w = k.went.ends in
        let l = served_as line (answer.Halted bytes) None (epoch_number k.opens.epoch) (epoch_number w.epoch) in
        let some = waits_some tells state offers s whole_tab k.went.middle k.read k.went.standing k.went.before k.went.after w.epoch (so version more.Halted bytes k).reads w.waits in
        subst (λ (z : Answer). AddsLine tells state offers s told past served line p z q) (sym is)
        (add_it version more.Halted bytes k (answer.Halted bytes) (epoch_number w.epoch)
        (shows_one r.setting.anchors (view p) (view q) served l url refl (epoch_number w.epoch) refl (found_turn version more.Halted bytes k (epoch_number w.epoch)
        (waits_turn tells state offers s whole_tab k.went.middle k.read k.went.standing k.went.before k.went.after w.epoch (so version more.Halted bytes k).reads w.waits))) (
          at_stage w.epoch Stage.Halted w.halted,
          of_opened version more.Halted bytes k (answer.Halted bytes) (epoch_number w.epoch) (epoch_number w.epoch) (version_of-epoch_number w.epoch ∙ w.waits.version_is),
          (λ y. has_given version more.Halted bytes k (answer.Halted bytes) (epoch_number w.epoch) refl y (λ z. some) (λ z. absurd z) (λ z. absurd z)),
        )
        (λ y e gave z. absurd (let x : answer.Halted bytes ≡ answer.Part e gave = z in cc)) tt tt (λ z. cc))
    by_ending version more.OtherUrl bytes a k is =
        let l = served_as line answer.OtherUrl None (epoch_number k.opens.epoch) 0 in
        subst (λ (z : Answer). AddsLine tells state offers s told past served line p z q) (sym is)
        (add_it version more.OtherUrl bytes k answer.OtherUrl 0 (shows_none r.setting.anchors (view p) (view q) served l refl)
        (λ y. has_other version more.OtherUrl bytes k 0 (is_other_url version more.OtherUrl bytes k k.went.ends y))
        (λ y e gave z. absurd (let x : answer.OtherUrl ≡ answer.Part e gave = z in cc)) tt tt (λ z. cc))
    by_ending version more.Fault bytes a k is =
        let l = served_as line (answer.ReadFault bytes) None (epoch_number k.opens.epoch) 0 in
        subst (λ (z : Answer). AddsLine tells state offers s told past served line p z q) (sym is)
        (add_it version more.Fault bytes k (answer.ReadFault bytes) 0 (shows_none r.setting.anchors (view p) (view q) served l refl)
        (λ y. has_given version more.Fault bytes k (answer.ReadFault bytes) 0 refl y (λ z. absurd z) (λ z. absurd z) (λ z. absurd z))
        (λ y e gave z. absurd (let x : answer.ReadFault bytes ≡ answer.Part e gave = z in cc)) tt tt (λ z. cc))

    by_got : (got : Got) (bytes : List ℕ) (a : Answer) → IsTyped a → AnswersGet got bytes a → GotAs tells state offers s whole_tab url p q bytes got → AddsLine tells state offers s told past served line p a q
    by_got (Missing c) bytes a fit is k = subst (λ (z : Answer). AddsLine tells state offers s told past served line p z q) (sym is) (was_refused c (subst IsTyped is fit) k.1)
    by_got (Found version ended) bytes a fit is k = by_ending version ended bytes a k is

  pub get_adds : (a : Answer) → Tracks tells state offers s told past served p → Leaves tells state offers s whole_tab p q → IsTyped a → Gets tells state offers s url p a q
      → AddsLine tells state offers s told past served line p a q
  get_adds a tracks leaves fit h = by_got tracks leaves h.free h.got h.bytes a fit h.answer_is h.went
