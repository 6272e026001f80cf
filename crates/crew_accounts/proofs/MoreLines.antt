-- A line that reads on, on a tab.
use Rattle.std.proofs.Common.{Bool, Contains, List, None, Some, [], ap, arith, cond, eq-eqb, false, inl, inr, refl, subst, sym, true, ⊎_elim, ◌++◌, ◌<◌, ◌∙◌, ◌∷◌, ◌≡◌, ◌≤◌, ◌⊎◌, ℕ, ◌&&◌, ◌||◌, ◌==◌}
use Rattle.std.specs.Prelude.{IsTrue}
use Rattle.std.proofs.lemmas.List.{append-nil}
use Rattle.lock_word.specs.Words.{epoch_number, stage_number, stage_of, version_of}
use Rattle.lock_word.specs.declared.epoch.Epoch.{Epoch}
use Rattle.lock_word.specs.declared.stage.Stage.{Stage}
use Rattle.lock_word.proofs.Parts.{stage_of-epoch_number, version_of-epoch_number}
use Rattle.rock_disk.specs.Cell.{CellState}
use Rattle.script_text.specs.declared.answer.Answer.{Answer}
use Rattle.script_text.specs.declared.answer.Answer.TheVariants as answer
use Rattle.script_text.specs.declared.line.Line.{Line}
use Rattle.store_key.specs.Key.{key_of}
use Rattle.store_key.specs.Url.{IsUrl}
use Rattle.entry_cut.specs.Content.{count}
use Rattle.core_model.specs.Anchors.{opening_counter}
use Rattle.core_model.specs.Tabs.{OfReader, tab_at}
use Rattle.core_model.specs.declared.view.Sight.TheVariants.{Published, Stood}
use Rattle.script_text.specs.declared.request.Request.TheVariants.{More as MoreOf}
use Rattle.line_account.specs.Accounts.{epochs_of}
use Rattle.line_account.specs.Answers.{IsPart, ComesIn, HasGiven, HasOther, HasPart, IsOfOpened, IsSure, IsWhole, Run}
use Rattle.store_serve.specs.Growing.{GrowsTo}
use Rattle.line_account.specs.Deeds.{Began}
use Rattle.line_account.specs.Lines.{Served, bytes_given, bytes_in, reading, url_named}
use Rattle.line_account.specs.Requests.{IsAnswerTo}
use Rattle.line_account.specs.Stopping.{ReadsBehind, answered_more, is_end, is_halted, is_other_url as is_turned}
use Rattle.store_rule.specs.declared.store.Pass.{Pass}
use Rattle.store_rule.specs.declared.store.Store.{Store}
use Rattle.store_rule.specs.Ground.{Ground, Offers, anchor_for, cut_of}
use Rattle.store_rule.specs.Passes.{basis, view}
use Rattle.rock_reader.specs.Reading.{ReadsAs, Standing, StaysOther, TurnsOut, halting, turned}
use Rattle.rock_reader.specs.Responses.{body_below, pieces_of}
use Rattle.rock_reader.specs.declared.answer.More.{More}
use Rattle.rock_reader.specs.declared.answer.More.TheVariants as more
use Rattle.store_serve.specs.Following.{WentOn}
use Rattle.store_serve.specs.Deeds.{NoDeed}
use Rattle.store_serve.proofs.Grown.{same}
use Rattle.store_serve.proofs.ServingDeeds as serving
use Rattle.store_serve.proofs.Readers.{gave}
use Rattle.store_serve.specs.Answers.{AnswersMore}
use Rattle.store_serve.specs.Reading.{ReadsMore, ReadsOn}
use Rattle.store_serve.specs.Tabs.{IsTurnedAway, Leaves}
use Rattle.store_serve.specs.Whole.{whole_tab}
use Rattle.crew_accounts.specs.Lines.{AddsLine, served_as}
use Rattle.crew_accounts.specs.Runs.{IsTold, Past, run_of}
use Rattle.crew_accounts.specs.Tracks.{HasEnded, IsOtherUrl, IsReader, Tracks}
use Rattle.crew_accounts.proofs.CallDeeds.{adds_by}
use Rattle.crew_accounts.proofs.Fitting.{on_reader, reader_fits}
use Rattle.crew_accounts.proofs.GivenBytes.{IsGrowing, IsFromFront, given_of, gives_bytes, part_of}
use Rattle.crew_accounts.proofs.OtherUrls.{entry_key, other_on, other_url}
use Rattle.crew_accounts.proofs.ReadingOn.{HasSeen, IsSameEntry, ReadOn, gives_on, tried_seen}
use Rattle.crew_accounts.proofs.Shown.{IsInTurn, ShowsInTurn, shows_none, shows_one, turn_from}
use Rattle.crew_accounts.proofs.TabLines.{elsewhere}
use Rattle.crew_accounts.proofs.Stopped.{went_ended, went_halted, went_turned}
use Rattle.crew_accounts.proofs.Telling.{Stays, ToTell, plain, tells_by}
use Rattle.crew_accounts.proofs.Tracking.{entry_moved, entry_on, tracks_on_tab}
use Rattle.crew_accounts.proofs.TurningAway.{away_adds}
use Rattle.crew_accounts.proofs.Turns.{waits_turn}
use Rattle.crew_accounts.proofs.Waiting.{grown_version}
use Rattle.crew_accounts.proofs.WaitsAt.{waits_more, waits_some}

pub at_stage : (e : Epoch) (stage : Stage) → e.stage ≡ stage → stage_of (epoch_number e) ≡ stage_number stage
at_stage e stage is = stage_of-epoch_number e ∙ ap stage_number is

module _ {C O : Type 0} (tells : Bool) (state : C → CellState) (offers : O → Offers) (s : Store C O) (t : ℕ) where
  -- where the tab is once reading on ended, and what its pass has seen
  pub record EndedAt (f : Standing) (m q : Pass C) : Type 0 where
    pub last : Standing
    pub entry : IsSameEntry f last
    pub reads : ReadsAs tells state offers s q t last
    pub seen : HasSeen tells state offers s t f m → HasSeen tells state offers s t last q

  abbrev pub itself : (f : Standing) → IsSameEntry f f
  itself f = record { anchor = refl; version = refl; offer = refl; url = refl }

  -- it stays
  abbrev pub stays_at : (f : Standing) (m q : Pass C) → ReadsAs tells state offers s q t f → GrowsTo (view m) (view q) → EndedAt f m q
  stays_at f m q reads keeps = record { last = f; entry = itself f; reads = reads; seen = λ so some. keeps.seen _ (so some) }

  abbrev pub still_at : (f : Standing) (m q : Pass C) → ReadsAs tells state offers s m t f → q ≡ m → EndedAt f m q
  still_at f m q reads is = stays_at f m q (subst (λ (z : Pass C). ReadsAs tells state offers s z t f) (sym is) reads) (same (ap view is))

  -- or its writer gave up
  abbrev pub halts_at : (f : Standing) (m q : Pass C) → ReadsAs tells state offers s q t (halting f) → GrowsTo (view m) (view q) → EndedAt f m q
  halts_at f m q reads keeps = record {
    last = halting f;
    entry = record { anchor = refl; version = refl; offer = refl; url = refl };
    reads = reads;
    seen = λ so some. keeps.seen _ (so some);
  }

  -- or it has turned from the entry
  abbrev pub turned_out : (f : Standing) (m q : Pass C) (before after : List ℕ) → ReadsAs tells state offers s m t f → TurnsOut tells state offers s t m f before after q → EndedAt f m q
  turned_out f m q before after reads k = record {
    last = turned f;
    entry = record { anchor = refl; version = refl; offer = refl; url = refl };
    reads = k.reads;
    seen = λ so some. tried_seen tells state offers s t f m q before after true reads k.tried;
  }

pub same_part : (e f : Epoch) (xs ys : List ℕ) → answer.Part e xs ≡ answer.Part f ys → e ≡ f
same_part e f xs ys h = cc

pub same_line : (s t : Served) → Some s ≡ Some t → s ≡ t
same_line s t e = cc

pub one_bool : (b : Bool) → b ≡ true → b ≡ false → ⊥
one_bool b e f = let z : true ≡ false = sym e ∙ f in cc

or_cases : (b c : Bool) → (b || c) ≡ true → (b ≡ true) ⊎ (c ≡ true)
or_cases true c e = inl refl
or_cases false c e = inr e

and_right : (b c : Bool) → (b && c) ≡ true → c ≡ true
and_right true c e = e
and_right false c e = absurd (let z : false ≡ true = e in cc)

same_tab : (t u : ℕ) → MoreOf t ≡ MoreOf u → u ≡ t
same_tab t u e = cc

neither : (b : Bool) (P : Type 0) → b ≡ false → (P → ⊥) → (b ≡ true) ⊎ P → ⊥
neither b P f none (inl e) = one_bool b e f
neither b P f none (inr h) = none h

module _ {C O : Type 0} (tells : Bool) (state : C → CellState) (offers : O → Offers) (s : Store C O) (told : Bool) (past : Past) (served : List Served) (worker number t : ℕ) (p q : Pass C) (below : t < whole_tab) (from : IsFromFront)
    (told_so : IsTrue told → IsTold (basis tells state offers s) told past tells) where
  abbrev g : Ground (List ℕ)
  g = basis tells state offers s

  abbrev r : Run (List ℕ)
  r = run_of (basis tells state offers s) told past

  abbrev line : Line
  line = record { worker = worker; number = number; request = MoreOf t }

  module _ (tracks : Tracks tells state offers s told past served p) (leaves : Leaves tells state offers s t p q) (h : IsReader tells state offers s told past served p t) (why : More) (bytes : List ℕ)
      (went : WentOn tells state offers s t h.standing p q bytes why) where
    so : ReadOn tells state offers s t h.standing p went.standing went.middle
    so = gives_on tells state offers s t h.standing p went.calls went.standing went.middle bytes h.is went.gives

    -- Behind END it came to END again, with no byte, behind OTHERURL to that, and behind HALTED to HALTED again, with no byte.
    was_ended : answered_more is_end t served ≡ true → (why ≡ more.End) × (bytes ≡ [])
    was_ended e = went_ended tells state offers s t h.standing p h.is (h.ended e) q bytes why went

    was_turned : answered_more is_turned t served ≡ true → (why ≡ more.OtherUrl) × (bytes ≡ [])
    was_turned e = went_turned tells state offers s t h.standing p h.is (h.turned e) q bytes why went

    was_halted : answered_more is_halted t served ≡ true → (why ≡ more.Halted) × (bytes ≡ [])
    was_halted e = went_halted tells state offers s t h.standing p h.is (h.halted e) q bytes why went

    -- the line was answered so, or one before it on the tab
    answered_so : (so : Answer → Bool) (a : Answer) (looked : ℕ) → answered_more so t (served_as line a None 0 looked ∷ served) ≡ true → (so a ≡ true) ⊎ (answered_more so t served ≡ true)
    answered_so so a looked e = ⊎_elim
        (λ (z : ((t == t) && so a) ≡ true). inl (and_right (t == t) (so a) z))
        (λ (z : answered_more so t served ≡ true). inr z)
        (or_cases ((t == t) && so a) (answered_more so t served) e)

    -- where the tab is then, once an answer was one of the last ones
    record IsStopped (a : Answer) (looked : ℕ) (last : Standing) : Type 0 where
      ended : answered_more is_end t (served_as line a None 0 looked ∷ served) ≡ true → HasEnded q t last
      turned : answered_more is_turned t (served_as line a None 0 looked ∷ served) ≡ true → last.is_other ≡ true
      halted : answered_more is_halted t (served_as line a None 0 looked ∷ served) ≡ true → last.is_halted ≡ true

    stopped : (a : Answer) (looked : ℕ) (last : Standing) → ((is_end a ≡ true) ⊎ (why ≡ more.End) → HasEnded q t last)
        → ((is_turned a ≡ true) ⊎ (why ≡ more.OtherUrl) → last.is_other ≡ true) → ((is_halted a ≡ true) ⊎ (why ≡ more.Halted) → last.is_halted ≡ true) → IsStopped a looked last
    stopped a looked last end other halt = record {
      ended = λ e. ⊎_elim (λ (z : is_end a ≡ true). end (inl z)) (λ (z : answered_more is_end t served ≡ true). end (inr (was_ended z).0)) (answered_so is_end a looked e);
      turned = λ e. ⊎_elim (λ (z : is_turned a ≡ true). other (inl z)) (λ (z : answered_more is_turned t served ≡ true). other (inr (was_turned z).0)) (answered_so is_turned a looked e);
      halted = λ e. ⊎_elim (λ (z : is_halted a ≡ true). halt (inl z)) (λ (z : answered_more is_halted t served ≡ true). halt (inr (was_halted z).0)) (answered_so is_halted a looked e);
    }

    -- it is stopped by none of these
    goes_on : (a : Answer) (looked : ℕ) → is_end a ≡ false → (why ≡ more.End → ⊥) → is_turned a ≡ false → (why ≡ more.OtherUrl → ⊥) → is_halted a ≡ false → (why ≡ more.Halted → ⊥) → IsStopped a looked went.standing
    goes_on a looked no_end not_end no_other not_other no_halt not_halt = stopped a looked went.standing (λ z. absurd (neither (is_end a) (why ≡ more.End) no_end not_end z))
        (λ z. absurd (neither (is_turned a) (why ≡ more.OtherUrl) no_other not_other z)) (λ z. absurd (neither (is_halted a) (why ≡ more.Halted) no_halt not_halt z))

    -- what the line tells behind such an answer
    stays_so : (a : Answer) (looked : ℕ) → ((why ≡ more.End) × (bytes ≡ []) → a ≡ answer.End []) → ((why ≡ more.OtherUrl) × (bytes ≡ []) → a ≡ answer.OtherUrl)
        → ((why ≡ more.Halted) × (bytes ≡ []) → a ≡ answer.Halted []) → Stays r (view q) served (served_as line a None 0 looked)
    stays_so a looked end other halt = record {
      behind_end = λ u b. end (was_ended (behind_here is_end u b));
      behind_other = λ u b. other (was_turned (behind_here is_turned u b));
      behind_halted = λ u b. halt (was_halted (behind_here is_halted u b));
    }
      where
        behind_here : (f : Answer → Bool) (u : ℕ) → ReadsBehind f served (served_as line a None 0 looked) u → answered_more f t served ≡ true
        behind_here f u b = subst (λ (n : ℕ). answered_more f n served ≡ true) (same_tab t u b.request) b.behind

    -- the tab is as the lines say with this one, which gave these bytes
    abbrev reader_at : (a : Answer) (looked : ℕ) (at : EndedAt tells state offers s t went.standing went.middle q) → IsStopped a looked at.last
        → (IsTrue told → at.last.is_other ≡ false → bytes_given t (served_as line a None 0 looked ∷ served) ≡ body_below g at.last.anchor at.last.offer at.last.place)
        → (IsTrue told → at.last.is_other ≡ true → bytes_given t (served_as line a None 0 looked ∷ served) ≡ []) → (IsTrue told → at.last.is_other ≡ true → IsOtherUrl r at.last)
        → IsReader tells state offers s told past (served_as line a None 0 looked ∷ served) q t
    reader_at a looked at stop given none other =
        let last = at.last in
        let anchor : last.anchor ≡ h.standing.anchor = at.entry.anchor ∙ so.entry.anchor in
        let version : last.version ≡ h.standing.version = at.entry.version ∙ so.entry.version in
        let url : last.url ≡ h.standing.url = at.entry.url ∙ so.entry.url in
        let offer : last.offer ≡ h.standing.offer = at.entry.offer ∙ so.entry.offer in
        let entry = entry_on r (view p) (view q) h.standing.anchor h.first.opened h.standing.url leaves.keeps h.entry in
        let moved = entry_moved r (view q) h.standing.anchor last.anchor h.first.opened h.standing.url last.url (sym anchor) (sym url) entry.0 in
        record {
          writes = h.writes;
          first = h.first;
          reads = h.reads;
          standing = last;
          is = at.reads;
          named = h.named ∙ ap Some (sym url);
          anchor = anchor ∙ h.anchor ∙ ap (anchor_for g) (sym url);
          version = h.version ∙ sym version;
          entry = moved.0;
          offer = moved.1 ∙ entry.1 ∙ h.offer ∙ sym offer;
          new = λ high. subst (λ (n : ℕ). g.setting.slots ≤ n) (sym offer) (h.new (subst (λ (n : ℕ). opening_counter g.setting < n) version high));
          given = given;
          none = none;
          other = other;
          shown = at.seen (so.seen h.shown);
          ended = stop.ended;
          turned = stop.turned;
          halted = stop.halted;
        }

    -- the line adds what it should, whatever it tells
    add_it : (a : Answer) (looked : ℕ) → Stays r (view q) served (served_as line a None 0 looked) → ShowsInTurn r.setting.anchors (view p) (view q) served (served_as line a None 0 looked) → IsReader tells state offers s told past (served_as line a None 0 looked ∷ served) q t
        → ToTell r (view q) served (served_as line a None 0 looked) a
        → (IsTrue r.tells → (e : Epoch) (bytes : List ℕ) → a ≡ answer.Part e bytes → HasPart r (view p) (view q) served (served_as line a None 0 looked) (epoch_number e))
        → IsAnswerTo (MoreOf t) a → ((x : ℕ) → Began (MoreOf t) a x → ⊥) → ((x : ℕ) → ComesIn (MoreOf t) a x → ⊥) → (a ≡ answer.Tab → ⊥) → AddsLine tells state offers s told past served line p a q
    add_it a looked stays shows reader to parts may none_begun none_opened no_tab =
        let l = served_as line a None 0 looked in
        record {
          drew = None;
          opened = 0;
          looked = looked;
          adds = adds_by r (view p) (view q) served l refl NoDeed (serving.went_on tells state offers s t went) (λ d z. absurd z) shows
              (tells_by r (view q) served l to
              (plain r (view q) served l stays (λ b e z. (shows b e z).seen) may refl none_begun none_opened (λ u body z. z) (reader_fits tells state offers s told past served p t a q h) no_tab))
              parts;
          tracks = tracks_on_tab tells state offers s told past served p q t l below leaves (λ j ne. elsewhere (MoreOf t) a j ne) (inr (inr reader)) tracks;
        }

    -- an epoch that was found behind the pieces is in turn for the line
    found_turn : (e : ℕ) → IsInTurn went.standing.anchor e (view went.middle) (view q) → IsInTurn (anchor_for g h.standing.url) e (view p) (view q)
    found_turn e turn = subst (λ (b : ℕ). IsInTurn b e (view p) (view q)) (so.entry.anchor ∙ h.anchor) (turn_from so.keeps turn)

    at_url : url_named (reading t served) ≡ Some h.standing.url
    at_url = ap url_named h.reads ∙ h.named

    no_epoch : (a : Answer) → epochs_of 0 0 a ≡ [] → ShowsInTurn r.setting.anchors (view p) (view q) served (served_as line a None 0 0)
    no_epoch a none = shows_none r.setting.anchors (view p) (view q) served (served_as line a None 0 0) none

    -- what was found of the standing's version is of the one that the line reads
    of_opened : (a : Answer) (looked e : ℕ) → version_of e ≡ went.standing.version → IsOfOpened served (served_as line a None 0 looked) e
    of_opened a looked e version first opened_is =
        version ∙ so.entry.version ∙ sym h.version ∙ ap (λ (z : Served). version_of z.opened) (same_line h.first first (sym h.reads ∙ opened_is))

    keeps_on : GrowsTo (view went.middle) (view q)
    keeps_on = gave tells state offers s t went.standing went.middle went.before went.after q why went.ends

    -- the bytes of an answer, behind those of before
    with_bytes : (a : Answer) (looked : ℕ) → bytes_given t (served_as line a None 0 looked ∷ served) ≡ bytes_given t served ++ bytes_in a
    with_bytes a looked = λ i. bytes_given t served ++ cond (eq-eqb t t refl i) (bytes_in a) []

    all_bytes : IsTrue told → h.standing.is_other ≡ false → (a : Answer) (looked : ℕ) → bytes_in a ≡ bytes → bytes_given t (served_as line a None 0 looked ∷ served) ≡ body_below g went.standing.anchor went.standing.offer went.standing.place
    all_bytes y mine a looked is = with_bytes a looked ∙ (λ i. h.given y mine i ++ is i) ∙ gives_bytes tells state offers s told past (told_so y) y t h.standing p went.calls went.standing went.middle bytes h.is went.gives
        ∙ (λ i. body_below g (sym so.entry.anchor i) (sym so.entry.offer i) went.standing.place)

    module _ (a : Answer) (looked : ℕ) (is : bytes_in a ≡ bytes) (was : went.standing.is_other ≡ false) (stop : IsStopped a looked went.standing) where
      -- it had not turned
      mine : h.standing.is_other ≡ false
      mine = sym so.other ∙ was

      -- the tab stays at the entry, with all bytes that were given
      abbrev stays_reader : ReadsAs tells state offers s q t went.standing → IsReader tells state offers s told past (served_as line a None 0 looked ∷ served) q t
      stays_reader reads = reader_at a looked (stays_at tells state offers s t went.standing went.middle q reads keeps_on) stop (λ y z. all_bytes y mine a looked is)
          (λ y z. absurd (one_bool went.standing.is_other z was)) (λ y z. absurd (one_bool went.standing.is_other z was))

      -- and the line has given what it should
      has_given : (reads : ReadsAs tells state offers s q t went.standing) → IsTrue told → (IsSure a → 0 < went.standing.place) → (IsWhole a → (0 < went.standing.place) × (went.standing.place ≡ pieces_of g went.standing.anchor went.standing.offer))
          → (IsPart a → IsGrowing g went.standing) → HasGiven r (view q) served (served_as line a None 0 looked)
      has_given reads y sure whole part =
          let reader = stays_reader reads in
          given_of tells state offers s told past (told_so y) y t q went.standing reads was reader.new
          (λ low. sym reader.offer ∙ reader.entry.old (let v = reader.version in omega arith)) from (view q) served (served_as line a None 0 looked) h.first h.reads reader.named reader.anchor reader.version reader.entry reader.offer
          (all_bytes y mine a looked is) reader.shown sure whole part

      has_part : (reads : ReadsAs tells state offers s q t went.standing) → IsTrue told → (e : ℕ) → (IsSure a → 0 < went.standing.place) → (IsWhole a → ⊥) → version_of e ≡ went.standing.version → Contains (view q).seen (Stood went.standing.anchor e)
          → 0 < went.standing.place → g.setting.slots ≤ went.standing.offer → went.standing.place < count (cut_of g went.standing.offer 0 0)
          → ((n : ℕ) → Contains (view p).seen (Published went.standing.anchor went.standing.version n) → n ≤ went.standing.place) → HasPart r (view p) (view q) served (served_as line a None 0 looked) e
      has_part reads y e sure whole version seen some high more least =
          let reader = stays_reader reads in
          part_of tells state offers s told past (told_so y) y t q went.standing reads was reader.new
          (λ low. sym reader.offer ∙ reader.entry.old (let v = reader.version in omega arith)) from (view q) served (served_as line a None 0 looked) h.first h.reads reader.named reader.anchor reader.version reader.entry reader.offer
          (all_bytes y mine a looked is) reader.shown sure (λ z. absurd (whole z)) (view p) e version seen some high more least

    -- The line HALTED, where the tab is halted then. Its epoch is the one looked at, of the version that the tab reads.
    module _ (epoch : Epoch) (at : EndedAt tells state offers s t went.standing went.middle q) (place_is : at.last.place ≡ went.standing.place) (same_url : at.last.is_other ≡ went.standing.is_other) (last_halted : at.last.is_halted ≡ true)
        (was : went.standing.is_other ≡ false) (some : 0 < went.standing.place) (is_why : why ≡ more.Halted) where
      abbrev halted_answer : Answer
      halted_answer = answer.Halted bytes

      abbrev n : ℕ
      n = epoch_number epoch

      unturned : at.last.is_other ≡ false
      unturned = same_url ∙ was

      halted_bytes : IsTrue told → bytes_given t (served_as line halted_answer None 0 n ∷ served) ≡ body_below g at.last.anchor at.last.offer at.last.place
      halted_bytes y = all_bytes y (sym so.other ∙ was) halted_answer n refl ∙ (λ i. body_below g (sym at.entry.anchor i) (sym at.entry.offer i) (sym place_is i))

      halted_stop : IsStopped halted_answer n at.last
      halted_stop = stopped halted_answer n at.last (λ z. absurd (neither false (why ≡ more.End) refl (λ w. let c : more.Halted ≡ more.End = sym is_why ∙ w in cc) z))
          (λ z. absurd (neither false (why ≡ more.OtherUrl) refl (λ w. let c : more.Halted ≡ more.OtherUrl = sym is_why ∙ w in cc) z)) (λ z. last_halted)

      abbrev halted_reader : IsReader tells state offers s told past (served_as line halted_answer None 0 n ∷ served) q t
      halted_reader = reader_at halted_answer n at halted_stop (λ y z. halted_bytes y) (λ y z. absurd (one_bool at.last.is_other z unturned)) (λ y z. absurd (one_bool at.last.is_other z unturned))

      halted_given : IsTrue told → HasGiven r (view q) served (served_as line halted_answer None 0 n)
      halted_given y =
          let reader = halted_reader in
          given_of tells state offers s told past (told_so y) y t q at.last at.reads unturned reader.new
          (λ low. sym reader.offer ∙ reader.entry.old (let v = reader.version in omega arith)) from (view q) served (served_as line halted_answer None 0 n) h.first h.reads reader.named reader.anchor reader.version reader.entry reader.offer
          (halted_bytes y) reader.shown (λ z. subst (λ (k : ℕ). 0 < k) (sym place_is) some) (λ z. absurd z) (λ z. absurd z)

      halted_line : epoch.stage ≡ Stage.Halted → epoch.version ≡ went.standing.version → IsInTurn went.standing.anchor n (view went.middle) (view q) → AddsLine tells state offers s told past served line p halted_answer q
      halted_line stage version turn = add_it halted_answer n
          (stays_so halted_answer n (λ z. absurd (let c : more.Halted ≡ more.End = sym is_why ∙ z.0 in cc)) (λ z. absurd (let c : more.Halted ≡ more.OtherUrl = sym is_why ∙ z.0 in cc)) (λ z. ap answer.Halted z.1))
          (shows_one r.setting.anchors (view p) (view q) served (served_as line halted_answer None 0 n) h.standing.url at_url n refl (found_turn n turn))
          halted_reader
          (at_stage epoch Stage.Halted stage, of_opened halted_answer n n (version_of-epoch_number epoch ∙ version), (λ y. halted_given y))
          (λ y e gave z. absurd (let w : answer.Halted bytes ≡ answer.Part e gave = z in cc)) tt (λ x z. z) (λ x z. z) (λ z. cc)

    -- where the tab turned from the entry, or had
    is_other_url : StaysOther tells state offers s t went.middle went.standing went.before went.after q ⊎ TurnsOut tells state offers s t went.middle went.standing went.before went.after q → IsTrue told → IsOtherUrl r went.standing
    is_other_url (inl k) y = other_on r h.standing went.standing so.entry.offer so.entry.url (h.other y (sym so.other ∙ k.was))
    is_other_url (inr k) y = other_url tells state offers s told past (told_so y) y t went.middle went.standing so.reads
        (entry_key r (view went.middle) h.standing.anchor h.first.opened h.standing.url went.standing (entry_on r (view p) (view went.middle) h.standing.anchor h.first.opened h.standing.url so.keeps h.entry).0
        (sym so.entry.anchor) (h.version ∙ sym so.entry.version) (sym so.entry.url))
        (k.url ((told_so y).cells y) ((told_so y).file y)).1

    has_other : (IsTrue told → IsOtherUrl r went.standing) → IsTrue told → HasOther r (view q) served (served_as line answer.OtherUrl None 0 0)
    has_other its y =
        let other = its y in
        let entry = entry_on r (view p) (view q) h.standing.anchor h.first.opened h.standing.url leaves.keeps h.entry in
        let moved = entry_moved r (view q) h.standing.anchor (anchor_for g h.standing.url) h.first.opened h.standing.url h.standing.url h.anchor refl entry.0 in
        let offer : moved.0.offer ≡ went.standing.offer = moved.1 ∙ entry.1 ∙ h.offer ∙ sym so.entry.offer in
        record {
          first = h.first;
          opened_is = h.reads;
          url = h.standing.url;
          named = h.named;
          entry = moved.0;
          good = subst (λ (o : ℕ). IsUrl (r.url o)) (sym offer) other.good;
          same_key = ap (λ (o : ℕ). key_of (r.url o)) offer ∙ other.same_key ∙ ap key_of so.entry.url;
          differs = λ z. other.differs (ap r.url (sym offer) ∙ z ∙ sym so.entry.url);
        }

    no_bytes : bytes_given t (served_as line answer.OtherUrl None 0 0 ∷ served) ≡ bytes_given t served
    no_bytes = with_bytes answer.OtherUrl 0 ∙ append-nil (bytes_given t served)

    none_before : IsTrue told → went.standing.is_other ≡ false → went.standing.place ≡ 0 → bytes_given t served ≡ []
    none_before y was first = h.given y (sym so.other ∙ was) ∙ ap (body_below g h.standing.anchor h.standing.offer) (let z = so.onward in let w : h.standing.place ≡ 0 = omega arith in w)

    turned_reader : (why ≡ more.End → ⊥) → (why ≡ more.Halted → ⊥) → StaysOther tells state offers s t went.middle went.standing went.before went.after q ⊎ TurnsOut tells state offers s t went.middle went.standing went.before went.after q → (IsTrue told → IsOtherUrl r went.standing)
        → IsReader tells state offers s told past (served_as line answer.OtherUrl None 0 0 ∷ served) q t
    turned_reader not_end not_halted (inl k) its = reader_at answer.OtherUrl 0 (still_at tells state offers s t went.standing went.middle q so.reads k.still)
        (stopped answer.OtherUrl 0 went.standing (λ z. absurd (neither false (why ≡ more.End) refl not_end z)) (λ z. k.was) (λ z. absurd (neither false (why ≡ more.Halted) refl not_halted z))) (λ y z. absurd (one_bool went.standing.is_other k.was z))
        (λ y z. no_bytes ∙ h.none y (sym so.other ∙ k.was)) (λ y z. its y)
    turned_reader not_end not_halted (inr k) its = reader_at answer.OtherUrl 0 (turned_out tells state offers s t went.standing went.middle q went.before went.after so.reads k)
        (stopped answer.OtherUrl 0 (turned went.standing) (λ z. absurd (neither false (why ≡ more.End) refl not_end z)) (λ z. refl) (λ z. absurd (neither false (why ≡ more.Halted) refl not_halted z))) (λ y z. absurd (let w : true ≡ false = z in cc))
        (λ y z. no_bytes ∙ none_before y k.was (k.url ((told_so y).cells y) ((told_so y).file y)).0) (λ y z. other_on r went.standing (turned went.standing) refl refl (its y))

  more_read : (tracks : Tracks tells state offers s told past served p) (leaves : Leaves tells state offers s t p q) (h : IsReader tells state offers s told past served p t) (why : More) (bytes : List ℕ)
      (went : WentOn tells state offers s t h.standing p q bytes why) (a : Answer) → AnswersMore why bytes a → AddsLine tells state offers s told past served line p a q
  more_read tracks leaves h (more.Piece count) bytes went a is = absurd is
  more_read tracks leaves h (more.NotYet epoch) bytes went a is =
      let k = went.ends in
      let l = served_as line (answer.Part epoch bytes) None 0 0 in
      let some = waits_some tells state offers s t went.middle q went.standing went.before went.after epoch (so tracks leaves h (more.NotYet epoch) bytes went).reads k.waits in
      let stage = at_stage epoch Stage.Appending k.grows in
      let version : version_of (epoch_number epoch) ≡ went.standing.version = version_of-epoch_number epoch ∙ k.waits.version_is in
      let high = subst (λ (n : ℕ). opening_counter g.setting < n) version (grown_version g (view q) went.standing.anchor (epoch_number epoch) k.stays.own.stands k.waits.fresh.seen stage) in
      let stop = goes_on tracks leaves h (more.NotYet epoch) bytes went (answer.Part epoch bytes) 0 refl (λ z. cc) refl (λ z. cc) refl (λ z. cc) in
      let on = stays_so tracks leaves h (more.NotYet epoch) bytes went (answer.Part epoch bytes) 0 (λ z. absurd (let w : more.NotYet epoch ≡ more.End = z.0 in cc)) (λ z. absurd (let w : more.NotYet epoch ≡ more.OtherUrl = z.0 in cc))
      (λ z. absurd (let w : more.NotYet epoch ≡ more.Halted = z.0 in cc)) in
      let reader = stays_reader tracks leaves h (more.NotYet epoch) bytes went (answer.Part epoch bytes) 0 refl k.waits.was stop k.stays in
      subst (λ (z : Answer). AddsLine tells state offers s told past served line p z q) (sym is)
      (add_it tracks leaves h (more.NotYet epoch) bytes went (answer.Part epoch bytes) 0 on
      (shows_one r.setting.anchors (view p) (view q) served l h.standing.url (at_url tracks leaves h (more.NotYet epoch) bytes went) (epoch_number epoch) refl (found_turn tracks leaves h (more.NotYet epoch) bytes went (epoch_number epoch)
      (waits_turn tells state offers s t went.middle q went.standing went.before went.after epoch (so tracks leaves h (more.NotYet epoch) bytes went).reads k.waits)))
      reader (
        stage,
        of_opened tracks leaves h (more.NotYet epoch) bytes went (answer.Part epoch bytes) 0 (epoch_number epoch) version,
        (λ y. has_given tracks leaves h (more.NotYet epoch) bytes went (answer.Part epoch bytes) 0 refl k.waits.was stop k.stays y (λ z. some) (λ z. absurd z) (λ z. (
          some,
          reader.new high,
          waits_more tells state offers s t went.middle q went.standing went.before went.after epoch (so tracks leaves h (more.NotYet epoch) bytes went).reads k.waits high,
        ))),
      )
      (λ y e gave z. part_at e gave z (has_part tracks leaves h (more.NotYet epoch) bytes went (answer.Part epoch bytes) 0 refl k.waits.was stop k.stays y (epoch_number epoch) (λ x. some) (λ x. x) version k.waits.fresh.seen some (reader.new high)
      (waits_more tells state offers s t went.middle q went.standing went.before went.after epoch (so tracks leaves h (more.NotYet epoch) bytes went).reads k.waits high) (λ n c. k.waits.published n (leaves.keeps.seen _ c))))
      tt (λ x z. z) (λ x z. z) (λ z. cc))
    where
      part_at : (e : Epoch) (gave : List ℕ) → answer.Part epoch bytes ≡ answer.Part e gave → HasPart r (view p) (view q) served (served_as line (answer.Part epoch bytes) None 0 0) (epoch_number epoch) → HasPart r (view p) (view q) served (served_as line (answer.Part epoch bytes) None 0 0) (epoch_number e)
      part_at e gave z part = subst (λ (f : Epoch). HasPart r (view p) (view q) served (served_as line (answer.Part epoch bytes) None 0 0) (epoch_number f)) (same_part epoch e bytes gave z) part
  more_read tracks leaves h more.End bytes went a is =
      let k = went.ends in
      let reads = subst (λ (z : Pass C). ReadsAs tells state offers s z t went.standing) (sym k.still) (so tracks leaves h more.End bytes went).reads in
      let at : HasEnded q t went.standing = record { was = k.was; some = k.some; none = subst (λ (z : Pass C). OfReader (λ r. r.slot ≡ None) (tab_at (view z) t)) (sym k.still) k.ended } in
      let stop = stopped tracks leaves h more.End bytes went (answer.End bytes) 0 went.standing (λ z. at)
      (λ z. absurd (neither false (more.End ≡ more.OtherUrl) refl (λ w. cc) z)) (λ z. absurd (neither false (more.End ≡ more.Halted) refl (λ w. cc) z)) in
      let on = stays_so tracks leaves h more.End bytes went (answer.End bytes) 0 (λ z. ap answer.End z.1) (λ z. absurd (let w : more.End ≡ more.OtherUrl = z.0 in cc)) (λ z. absurd (let w : more.End ≡ more.Halted = z.0 in cc)) in
      subst (λ (z : Answer). AddsLine tells state offers s told past served line p z q) (sym is)
      (add_it tracks leaves h more.End bytes went (answer.End bytes) 0 on (no_epoch tracks leaves h more.End bytes went (answer.End bytes) refl)
      (stays_reader tracks leaves h more.End bytes went (answer.End bytes) 0 refl k.was stop reads)
      (λ y. has_given tracks leaves h more.End bytes went (answer.End bytes) 0 refl k.was stop reads y (λ z. k.some) (λ z. (k.some, k.all)) (λ z. absurd z))
      (λ y e gave z. absurd (let w : answer.End bytes ≡ answer.Part e gave = z in cc)) tt (λ x z. z) (λ x z. z) (λ z. cc))
  more_read tracks leaves h more.Halted bytes went a is =
      let k = went.ends in
      let its = so tracks leaves h more.Halted bytes went in
      subst (λ (z : Answer). AddsLine tells state offers s told past served line p z q) (sym is)
      (halted_line tracks leaves h more.Halted bytes went k.epoch (halts_at tells state offers s t went.standing went.middle q k.stays (keeps_on tracks leaves h more.Halted bytes went))
      refl refl refl k.waits.was (waits_some tells state offers s t went.middle q went.standing went.before went.after k.epoch its.reads k.waits) refl k.halted k.waits.version_is
      (waits_turn tells state offers s t went.middle q went.standing went.before went.after k.epoch its.reads k.waits))
  more_read tracks leaves h more.OtherUrl bytes went a is =
      let its = is_other_url tracks leaves h more.OtherUrl bytes went went.ends in
      subst (λ (z : Answer). AddsLine tells state offers s told past served line p z q) (sym is)
      (add_it tracks leaves h more.OtherUrl bytes went answer.OtherUrl 0
      (stays_so tracks leaves h more.OtherUrl bytes went answer.OtherUrl 0 (λ z. absurd (let w : more.OtherUrl ≡ more.End = z.0 in cc)) (λ z. refl) (λ z. absurd (let w : more.OtherUrl ≡ more.Halted = z.0 in cc)))
      (no_epoch tracks leaves h more.OtherUrl bytes went answer.OtherUrl refl) (turned_reader tracks leaves h more.OtherUrl bytes went (λ z. cc) (λ z. cc) went.ends its)
      (λ y. has_other tracks leaves h more.OtherUrl bytes went its y)
      (λ y e gave z. absurd (let w : answer.OtherUrl ≡ answer.Part e gave = z in cc)) tt (λ x z. z) (λ x z. z) (λ z. cc))
  more_read tracks leaves h more.Fault bytes went a is =
      let stop = goes_on tracks leaves h more.Fault bytes went (answer.ReadFault bytes) 0 refl (λ z. cc) refl (λ z. cc) refl (λ z. cc) in
      let on = stays_so tracks leaves h more.Fault bytes went (answer.ReadFault bytes) 0 (λ z. absurd (let w : more.Fault ≡ more.End = z.0 in cc)) (λ z. absurd (let w : more.Fault ≡ more.OtherUrl = z.0 in cc))
      (λ z. absurd (let w : more.Fault ≡ more.Halted = z.0 in cc)) in
      subst (λ (z : Answer). AddsLine tells state offers s told past served line p z q) (sym is)
      (add_it tracks leaves h more.Fault bytes went (answer.ReadFault bytes) 0 on (no_epoch tracks leaves h more.Fault bytes went (answer.ReadFault bytes) refl)
      (stays_reader tracks leaves h more.Fault bytes went (answer.ReadFault bytes) 0 refl went.ends.was stop went.ends.stays)
      (λ y. has_given tracks leaves h more.Fault bytes went (answer.ReadFault bytes) 0 refl went.ends.was stop went.ends.stays y (λ z. absurd z) (λ z. absurd z) (λ z. absurd z))
      (λ y e gave z. absurd (let w : answer.ReadFault bytes ≡ answer.Part e gave = z in cc)) tt (λ x z. z) (λ x z. z) (λ z. cc))

  pub more_adds : (a : Answer) → Tracks tells state offers s told past served p → Leaves tells state offers s t p q → ReadsMore tells state offers s t p a q → AddsLine tells state offers s told past served line p a q
  more_adds a tracks leaves met = ⊎_elim
      (λ (m : IsReader tells state offers s told past served p t × ((e : Standing) → ReadsAs tells state offers s p t e → ReadsOn tells state offers s t p a q e)).
      let on = m.1 m.0.standing m.0.is in more_read tracks leaves m.0 on.why on.bytes on.went a on.answer_is)
      (λ (m : (reading t served ≡ None) × IsTurnedAway p a q).
      away_adds tells state offers s told past served line p a q m.1 (λ fits. fits m.0) (λ u body z. absurd z) tracks)
      (on_reader tells state offers s told past served p t a q ((e : Standing) → ReadsAs tells state offers s p t e → ReadsOn tells state offers s t p a q e) met (tracks.each t below))
