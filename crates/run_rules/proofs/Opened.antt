-- A run that came to its end is explained.
use Rattle.std.proofs.Common.{Bool, IsTrue, List, ap, arith, cond, inl, inr, length, map, min, refl, subst, sym, ⊎_elim, ◌+◌, ◌-◌, ◌<◌, ◌^◌}
use Rattle.std.proofs.Common.{◌∙◌, ◌≡◌, ◌≤◌, ℕ}
use Rattle.std.specs.Prelude.{nat_lt}
use Rattle.std.proofs.lemmas.Bool.{lt-ltb}
use Rattle.std.proofs.lemmas.List.{length-map}
use Rattle.rock_disk.specs.Cell.{CellState}
use Rattle.rock_disk.specs.File.{Files}
use Rattle.entry_cut.specs.Content.{room_of}
use Rattle.rebuild_model.specs.Image.{IsGreatest}
use Rattle.rebuild_model.specs.Rebuilt.{IsWinner}
use Rattle.store_key.specs.Anchor.{back_half, front_half}
use Rattle.script_text.specs.declared.answer.Answer.{Answer}
use Rattle.script_text.specs.declared.line.Line.{Line}
use Rattle.line_account.specs.Answers.{Run}
use Rattle.line_account.specs.Closing.{Closed as ClosedCrew, Worker}
use Rattle.line_account.specs.Scripts.{ServesScript}
use Rattle.line_account.specs.Crews.{HaveCourses}
use Rattle.line_account.specs.Rules.{KeepsRules}
use Rattle.store_rule.specs.Closing.{Closed}
use Rattle.store_rule.specs.Ground.{Ground}
use Rattle.store_rule.specs.Passes.{basis, view}
use Rattle.rock_disk.specs.Counts.{Counts}
use Rattle.crew_accounts.specs.Runs.{IsTold, Past, run_of}
use Rattle.crew_accounts.specs.Openings.{HadKept, HadNone, HasPast, OpenedAsKept}
use Rattle.rock_run.specs.Offered.{offers_of}
use Rattle.worker_pool.specs.Running.{Account}
use Rattle.worker_shelf.specs.Shelves.{OnShelf}
use Rattle.crew_accounts.specs.Closings.{HasClosing, crew_of, worker_of}
use Rattle.crew_accounts.specs.Playing.{HasRun as HasPlayed}
use Rattle.worker_shelf.specs.Playing.{HasSteps, fault_answers}
use Rattle.rock_run.specs.Runs.{HasRun}
use Rattle.run_rules.specs.Openings.{BeganWithFile}
use Rattle.run_rules.specs.Runs.{IsExplained}
use Rattle.run_rules.proofs.Crews.{are_counted, have_courses, met, printed}
use Rattle.run_rules.proofs.Files.{OldWinner}
use Rattle.run_rules.proofs.Fitting.{OneWinner, fits_is}
use Rattle.run_rules.proofs.Lists.{at_place, both}
use Rattle.run_rules.proofs.Zero.{zero_empty}

-- where a is below b the first of two is taken
first_taken : (a b : ℕ) (x y : List ℕ) → a < b → cond (nat_lt a b) x y ≡ x
first_taken a b x y lt = ap (λ (t : Bool). cond t x y) (lt-ltb a b lt)

-- the past of a store has the URL and the body of each entry that a rebuild of its file keeps
module _ {C : Type 0} (told : Bool) (state : C → CellState) (g : Ground (List ℕ)) (past : Past) (slot anchors : ℕ) (cells : List C)
    (o : OpenedAsKept told state g slot anchors cells)
    (winners : IsTrue told → (a : ℕ) (e : Rattle.rebuild_model.specs.Entry.Entry)
    → IsWinner slot (map (λ c. (state c).now) cells) anchors a e → (past.url e.first ≡ e.url) × (past.body e.first ≡ e.body)) where
  abbrev run : Run (List ℕ)
  run = run_of g told past

  images : List (List ℕ)
  images = o.kept.images

  told_of : (a : ℕ) (h : HadKept g slot anchors o.kept.images a) → IsTrue told
      → (past.url h.entry.first ≡ h.entry.url) × (past.body h.entry.first ≡ h.entry.body)
  told_of a h t = winners t a h.entry (subst (λ z. IsWinner slot z anchors a h.entry) (o.kept.told t) h.winner)

  winner_of : (a : ℕ) → HadKept g slot anchors o.kept.images a → OldWinner run slot anchors o.kept.images a
  winner_of a h = record {
    entry = h.entry;
    winner = h.winner;
    keyed = record {
      front = h.key0 ∙ ap front_half h.winner.complete.key_of_url;
      back = h.key1
          ∙ ap back_half h.winner.complete.key_of_url;
    };
    url_is = λ t. ap run.url h.offer ∙ first_taken h.entry.first g.setting.slots (past.url h.entry.first) _ h.below ∙ (told_of a h t).0;
    body_is = λ t. ap run.body h.offer ∙ first_taken h.entry.first g.setting.slots (past.body h.entry.first) _ h.below ∙ (told_of a h t).1;
  }

  pub began : BeganWithFile run slot anchors o.kept.images
  unfolding winner_of
  began = record {
    each = λ a small. ⊎_elim
        (λ (h : HadKept g slot anchors o.kept.images a). inl (let w = winner_of a h in
        record { entry = h.entry; winner = h.winner; epoch = h.epoch; keyed = w.keyed; url_is = w.url_is; body_is = w.body_is }))
        (λ (h : HadNone g slot anchors o.kept.images a). inr record { none = h.none; epoch = h.epoch })
        (o.each a small);
    counter = subst (IsGreatest slot o.kept.images) (sym o.counter) o.kept.rebuilt.greatest;
  }

module _ {C St : Type 0} (volume_tells told : Bool) (state : C → CellState) (faults : St → ℕ) (files left : Files) (name : List ℕ)
    (slot anchors workers : ℕ) (script : List Line) (answers : List (List (ℕ × Answer)))
    (before after : Counts) (h : HasRun volume_tells told state files left name slot anchors workers script faults answers before after)
  where
    abbrev g : Ground (List ℕ)
    g = basis told state offers_of h.closed.store

    abbrev accounts : List (Account (OnShelf C (List Line) St))
    accounts = h.served.played.accounts

    -- as many workers as passes
    pub as_many : length accounts ≡ workers
    as_many =
        sym (length-map accounts (λ a. a.start.pass)) ∙ ap length h.served.played.passes_are ∙ sym h.closed.passes.ok.0
        ∙ h.closed.opened.store.many

    -- the store was closed with the passes of the workers, in the state of its closing
    closed_behind : (c : Closed told state g (map (λ (a : Account (OnShelf C (List Line) St)). view a.end.pass) accounts) h.closed.cells)
        × (c.gathered.state ≡ h.closed.closed.gathered.state)
    closed_behind =
        subst (λ vs. (c : Closed told state g vs h.closed.cells) × (c.gathered.state ≡ h.closed.closed.gathered.state))
        (ap (map view) (sym h.served.played.passes_left_are) ∙ both (λ (a : Account (OnShelf C (List Line) St)). a.end.pass) view accounts)
        (h.closed.closed, refl)

    pub has_played : HasPlayed told state offers_of faults h.closed.store script accounts h.closed.cells
    has_played = record {
      count = as_many ∙ sym h.closed.opened.store.passes_are;
      each = h.served.played.each;
      told = h.served.played.told;
      closed = closed_behind.0;
    }

    pub same_state : has_played.closed.gathered.state ≡ h.closed.closed.gathered.state
    unfolding has_played
    same_state = closed_behind.1

    -- what other laws say, as they are used here
    pub record Laws : Type 0 where
      pub past : HasPast told state offers_of slot anchors h.closed.opened.cells h.closed.store
      pub opening : OpenedAsKept told state g slot anchors h.closed.opened.cells
      pub one : OneWinner
      pub closes : (past : Past) → IsTold g told past told → HasClosing {C = C} {O = List Line} {St = St}
          (run_of g told past) script accounts
      pub keeps : (r : Run (List ℕ)) (crew : List Worker) → (c : ClosedCrew r crew) → ServesScript script crew
          → HaveCourses r crew c.view_at
          → KeepsRules r script crew
      pub counts : (a : Account (OnShelf C (List Line) St)) → HasSteps told state offers_of faults a
          → min (faults a.start.station + fault_answers a) (2 ^ 64 - 1) ≤ faults a.end.station

    module _ (laws : Laws) where
      abbrev r : Run (List ℕ)
      r = run_of g told laws.past.past

      abbrev closing : HasClosing {C = C} {O = List Line} {St = St} r script accounts
      closing = laws.closes laws.past.past laws.past.told

      abbrev crew : List Worker
      crew = crew_of closing.courses

      pub rules : KeepsRules r script crew
      rules = laws.keeps r crew closing.closed closing.serves (have_courses r script accounts closing)

      pub above_none : 0 < anchors
      above_none = let from = h.closed.opened.fit.from in omega (arith, from)

      pub slots_there : 0 < length laws.opening.kept.images
      slots_there = let fit = h.closed.opened.fit in let from = fit.from in let to = fit.to in let many = laws.opening.kept.many in
          omega (arith, from, to, many)

      unfoldable pub explained : IsExplained volume_tells files name slot anchors workers script answers before after
      explained = record {
        run = r;
        crew = crew;
        images = laws.opening.kept.images;
        file = λ t. let out = h.closed.opened.out t in record {
          was = out.was;
          there = out.found;
          images_are = laws.opening.kept.told (h.closed.opened.told t) ∙ sym (both state (λ (c : CellState). c.now) h.closed.opened.cells)
              ∙ ap (map (λ (c : CellState). c.now)) out.cells_are;
        };
        tells_are = λ t. h.closed.opened.told t;
        room_is = ap room_of h.closed.opened.store.slot_is;
        slots_are = h.closed.opened.store.slots_are ∙ sym laws.opening.kept.many;
        anchors_are = h.closed.opened.store.anchors_are;
        began = began told state g laws.past.past slot anchors h.closed.opened.cells laws.opening laws.past.winners;
        fits_is = fits_is told state g slot anchors script h.closed.opened.cells laws.opening laws.one h.closed.opened.store.anchors_are
            h.closed.opened.store.slot_is
            (h.closed.opened.store.slots_are ∙ sym laws.opening.kept.many) h.closed.opened.store.offers_are slots_there;
        count = length-map closing.courses worker_of ∙ closing.count ∙ as_many;
        serves = closing.serves;
        printed = printed r script accounts closing answers h.served.played.answers_are;
        met = met told state offers_of faults h.closed.store script accounts
            (λ j a at. h.served.played.each j a (at_place accounts j a at)) answers h.served.played.answers_are;
        stations = map faults h.stations;
        many = length-map h.stations faults ∙ ap length (sym h.served.played.stations_left_are)
            ∙ length-map accounts (λ (a : Account (OnShelf C (List Line) St)). a.end.station) ∙ as_many;
        ended = h.ended;
        faults = are_counted told state offers_of faults h.closed.store script accounts
            (λ j a at. h.served.played.each j a (at_place accounts j a at)) laws.counts
            answers h.stations h.served.played.answers_are h.served.played.stations_left_are;
        rules = rules;
        zero = zero_empty r slot anchors laws.opening.kept.images script crew rules
            (began told state g laws.past.past slot anchors h.closed.opened.cells laws.opening laws.past.winners)
            h.closed.opened.store.anchors_are above_none;
      }
