-- The private lines of a worker are answered as by a plain store of its own, but for versions, and what that has at the end stands there.
use Rattle.std.proofs.Common.{Bool, Contains, List, [], ap, arith, false, inl, inr, length, map, refl, subst, suc, sym, true, zero, ◌+◌, ◌-◌, ◌<◌, ◌∙◌, ◌∷◌, ◌≡◌, ◌≢◌, ◌≤◌, ◌⊎◌, ◌^◌, ℕ}
use Rattle.std.specs.Prelude.{IsTrue, filter, min, nat_lt}
use Rattle.std.proofs.lemmas.Bool.Decides.{nat_tests}
use Rattle.std.specs.Global.{Vec}
use Rattle.std.proofs.lemmas.Bool.{and_parts, false≢true}
use Rattle.std.proofs.lemmas.List.{length-map}
use mathlib.Core.Option.{some}
use lib.ListN.{get_elem?}
use Rattle.rock_disk.specs.Cell.{CellState}
use Rattle.rock_disk.specs.Opened.{AreSlots}
use Rattle.entry_cut.specs.Content.{room_of}
use Rattle.script_text.specs.declared.answer.Answer.TheVariants as answer
use Rattle.script_text.specs.declared.line.Line.{Line}
use Rattle.core_model.specs.Anchors.{opening_counter}
use Rattle.core_model.specs.State.{word}
use Rattle.core_model.specs.Tabs.{is_free}
use Rattle.core_model.specs.declared.view.Place.TheVariants.{Counter}
use Rattle.core_model.specs.declared.view.View.{View}
use Rattle.core_model.proofs.SlotsOpened.{map_contains}
use Rattle.plain_model.specs.declared.store.Plain.{Plain}
use Rattle.plain_model.specs.declared.store.Setting.{Setting}
use Rattle.plain_model.specs.Opening.{IsOpened}
use Rattle.plain_model.specs.Serving.{after, answers, lines_for}
use Rattle.plain_model.specs.Store.{tab_at}
use Rattle.plain_laws.specs.Fitting.{Fits, most_held, need_at}
use Rattle.plain_laws.specs.Private.{IsServedAlone, answers_to, is_private, is_private_anchor, private_lines}
use Rattle.plain_laws.specs.Renaming.{IsRenaming, renamed}
use Rattle.plain_laws.proofs.Openings.{OpensWell, file_opens}
use Rattle.plain_laws.proofs.Running.{AllNeeded, all_needed, offers_in, room_at_rest}
use Rattle.plain_laws.proofs.Fewer.{fewer_fit}
use Rattle.plain_laws.proofs.ServedAlone.{told_in_turn}
use Rattle.store_rule.specs.declared.store.Pass.{Pass}
use Rattle.store_rule.specs.declared.store.Store.{Store}
use Rattle.store_rule.specs.Closing.{Closed}
use Rattle.store_rule.specs.Ground.{Ground, Offers, fits, left_to}
use Rattle.store_rule.specs.Passes.{basis, view}
use Rattle.store_rule.specs.Words.{has}
use Rattle.rock_open.specs.Opening.{IsStoreOver}
use Rattle.worker_pool.specs.Courses.{At, IsServed, Stage}
use Rattle.worker_pool.specs.Running.{Account}
use Rattle.store_serve.specs.Answers.{is_fault}
use Rattle.store_serve.specs.Serving.{MayAsk}
use Rattle.store_serve.specs.Whole.{whole_tab}
use Rattle.worker_shelf.specs.Shelves.{LeftBelow, LeftTab, OnShelf}
use Rattle.worker_shelf.proofs.Holding.{Stays}
use Rattle.worker_shelf.specs.Playing.{HasSteps, IsPlayed, fault_answers}
use Rattle.plain_runs.specs.Elsewhere.{IsElse}
use Rattle.plain_runs.specs.Alone.{IsAloneAtItsAnchors, IsAtMark}
use Rattle.plain_runs.specs.PrivateRuns.{IsPrivateRun, left_alone, left_private}
use Rattle.plain_runs.specs.Runs.{Numbered, ShowsPlain, setting_over}
use Rattle.plain_runs.specs.Shows.{ShowsLot}
use Rattle.plain_runs.specs.Words.{Lot, setting_of}
use Rattle.plain_runs.proofs.AtAnchors.{OneKept}
use Rattle.plain_runs.proofs.Awaits.{IsOwnLine, served_line, served_lines}
use Rattle.plain_runs.proofs.Ends.{PlacedPieces}
use Rattle.plain_runs.proofs.LeftAnchors.{lot_left}
use Rattle.plain_runs.proofs.Lines.{GivesFronts, GivesWholes}
use Rattle.plain_runs.proofs.LotCourses.{AllServed, IsFairOn, ReachedLot, all_served}
use Rattle.plain_runs.proofs.LotEnds.{LotLeft, entries_there, image_at, lot_left_all, other_left, words_there}
use Rattle.plain_runs.proofs.LotLines.{IsOfLot}
use Rattle.plain_runs.proofs.LotRequests.{IsFitting}
use Rattle.plain_runs.proofs.SortedLines.{elsewhere, on_lot, private_lot}
use Rattle.plain_runs.proofs.Opened.{HoldsKept, holds_file, new_free, shows_opened}
use Rattle.plain_runs.proofs.OwnAnchors.{OwnsLot, lot_stays}
use Rattle.plain_runs.proofs.Runs.{none_counted}
use Rattle.plain_runs.proofs.ShowingOthers.{OneBegins, within_free}

-- a store that fits has a slot
fits_some : {X : Type 0} (g : Ground X) → fits g ≡ true → 0 < g.setting.slots
unfolding fits
fits_some g h = first (nat_lt 0 g.setting.slots) refl (and_parts (nat_lt 0 g.setting.slots) _ h).0
  where
    first : (b : Bool) → nat_lt 0 g.setting.slots ≡ b → nat_lt 0 g.setting.slots ≡ true → 0 < g.setting.slots
    first true is e = grind (arith, nat_tests)
    first false is e = absurd (false≢true (sym is ∙ e))

-- what the plain store needs for a line of the list
needed_of : (s : Setting) (cap : ℕ → ℕ) (lines : List Line) → AllNeeded s cap lines → (line : Line) → Contains lines line → (a : ℕ) → need_at s a line.request ≤ cap a
needed_of s cap [] n line c a = absurd (let z = c.1 in omega arith)
needed_of s cap (x ∷ lines) n line (zero, lt, e) a = subst (λ (l : Line). need_at s a l.request ≤ cap a) e (n.0 a)
needed_of s cap (x ∷ lines) n line (suc i, lt, e) a = needed_of s cap lines n.1 line (i, (let z = lt in omega arith), e) a

module _ {C O St : Type 0} (tells : Bool) (state : C → CellState) (offers : O → Offers) (faults : St → ℕ) (slot anchors passes : ℕ) (origin : O) (cells : List C) (s : Store C O) (ps : Vec (Pass C))
    (over : IsStoreOver tells state offers slot anchors passes origin cells s ps) (told : IsTrue tells) (as_wide : (c : C) → IsTrue tells → length (state c).now ≡ (state c).width)
    (slots : AreSlots slot (map state cells)) (one : OneKept) (holds : HoldsKept) (stays : Stays tells state offers s)
    (rose : (a : Account (OnShelf C O St)) → HasSteps tells state offers faults a → min (faults a.start.station + fault_answers a) (2 ^ 64 - 1) ≤ faults a.end.station)
    (begins : OneBegins) (fronts : GivesFronts) (wholes : GivesWholes)
    (script : List Line) (numbers : Numbered 0 script) (plain : Plain) (o : IsOpened slot (map (λ c. (state c).now) cells) anchors plain) (some_anchors : 0 < anchors)
    (w : ℕ) (a : Account (OnShelf C O St)) (h : IsPlayed tells state offers faults s script w a) (none : faults a.end.station ≡ 0)
    (unspent : (x : Stage (OnShelf C O St)) → Contains a.stages x → (versions : ℕ) → x.answer ≢ answer.Spent versions) where
  abbrev g : Ground (List ℕ)
  g = basis tells state offers s

  abbrev S : Setting
  S = setting_of (basis tells state offers s)

  setting_is : setting_of g ≡ setting_over slot anchors (length cells)
  setting_is i = record { slots = over.slots_are i; room = room_of (over.slot_is i); anchors = over.anchors_are i }

  module _ (alone_there : IsAloneAtItsAnchors g script (w + 1) w) (fit : Fits S (lines_for (w + 1) script) plain) where
    abbrev lot : Lot
    lot = private_lot (basis tells state offers s) script (w + 1) w

    abbrev these : Line → Bool
    these line = is_private S script (w + 1) line

    abbrev cap : ℕ → ℕ
    cap = most_held S (lines_for (w + 1) script) plain

    owns : OwnsLot g lot (view a.start.pass).pass
    owns = lot_left g lot (view a.start.pass).pass
        (λ b lt ours. subst (λ (n : ℕ). left_to g n b ≡ true) (sym h.number) (and_parts (left_to g w b) (is_private_anchor S script (w + 1) b) ours).0)

    -- the plain store at the opening
    wide : room_of g.slot + 40 ≡ slot
    wide = let z = slots.size.from in let e = over.slot_is in omega arith

    opens_well : OpensWell S plain
    opens_well = file_opens S (map (λ c. (state c).now) cells) plain (over.slots_are ∙ sym (length-map cells (λ (c : C). (state c).now)))
        (subst (λ (n : ℕ). IsOpened n (map (λ c. (state c).now) cells) g.setting.anchors plain) (sym wide) (subst (λ (n : ℕ). IsOpened slot (map (λ c. (state c).now) cells) n plain) (sym over.anchors_are) o))

    shown_whole : ShowsPlain tells state offers s a.start.pass plain
    shown_whole = shows_opened tells state offers slot anchors passes origin cells s ps over told as_wide slots one a.start.pass h.fresh plain o

    shown : ShowsLot tells state offers s (λ v. v) a.start.pass plain lot
    shown = record {
      own = shown_whole.own;
      inner_free = shown_whole.inner_free;
      knows = record { counter = λ has_counter. absurd (false≢true has_counter); many = shown_whole.knows.many; each = λ b lt ours. shown_whole.knows.each b lt refl };
      hand = shown_whole.hand;
      eight = shown_whole.eight;
      tabs = λ t lt mine. shown_whole.tabs t lt refl;
      within = λ t lt mine. within_free lot (tab_at plain t) (opens_well.0.free t);
      away = λ t lt no. (opens_well.0.free t, λ used. absurd (false≢true (sym used ∙ ap is_free (new_free tells state offers slot anchors passes origin cells s ps over told as_wide slots one a.start.pass h.fresh plain o t))));
    }

    counter_is : plain.counter ≡ opening_counter g.setting
    counter_is = sym (shown_whole.knows.counter refl) ∙ ap (λ (v : View (List ℕ)). has g v Counter) h.fresh.fresh

    fitting : IsFitting g lot cap (λ v. v) (view a.start.pass) plain
    fitting = record {
      fits_is = alone_there.fits_is;
      apart = refl;
      room = room_at_rest S (lines_for (w + 1) script) plain (let z = slots.size.from in let e = over.slot_is in omega arith) (let e = over.anchors_are in omega arith) some_slots opens_well.2 opens_well.0 fit;
      counts = opens_well.3;
      is = record { keeps = λ v le. refl; rises = λ v u lt. lt };
      least = let e = counter_is in omega arith;
      newest = inl (let e = counter_is in omega arith);
    }
      where
        some_slots : 0 < S.slots
        some_slots = fits_some g alone_there.fits_is

    started : ReachedLot tells state offers faults s script lot cap refl begins stays told (holds_file tells state offers slot anchors passes origin cells s ps over told holds) record { front = fronts; whole = wholes }
        (let z = slots.size.to in let e = over.slot_is in omega arith) these a.start.pass owns (λ v. v) a.start plain
    started = record {
      store = h.store;
      number = refl;
      shows = shown;
      free = new_free tells state offers slot anchors passes origin cells s ps over told as_wide slots one a.start.pass h.fresh plain o whole_tab;
      fit = fitting;
    }

    own : (x : Stage (OnShelf C O St)) → Contains a.stages x → IsOwnLine (w + 1) 0 script x.place x.line
    own x c = served_line (w + 1) script a.stages numbers h.each x c

    own_lines : map (λ x. x.line) a.stages ≡ lines_for (w + 1) script
    own_lines = served_lines (w + 1) script a.stages h.each

    among : (x : Stage (OnShelf C O St)) → Contains a.stages x → Contains (lines_for (w + 1) script) x.line
    among x c = subst (λ (ls : List Line). Contains ls x.line) own_lines (map_contains (λ (y : Stage (OnShelf C O St)). y.line) a.stages x c)

    no_faults : fault_answers a ≡ 0
    no_faults = let r = rose a h.has_steps in omega arith

    fair : (x : Stage (OnShelf C O St)) → Contains a.stages x → IsFairOn tells state offers faults s script lot cap refl begins stays told (holds_file tells state offers slot anchors passes origin cells s ps over told holds)
        record { front = fronts; whole = wholes } (let z = slots.size.to in let e = over.slot_is in omega arith) these a.start.pass owns x
    fair x c = record {
      step = h.has_steps.steps x c;
      takes = λ served. h.takes x.line (own x c).among (own x c).mine served;
      fair = none_counted (λ (y : Stage (OnShelf C O St)). is_fault y.answer) a.stages no_faults x c;
      some = unspent x c;
      sorted = by_test (these x.line) refl;
      needs = λ b. needed_of S cap (lines_for (w + 1) script) (all_needed S (lines_for (w + 1) script) plain) x.line (among x c) b;
    }
      where
        asks : IsServed x.line.request → MayAsk tells state offers s x.line.number x.line.request
        asks served = (h.takes x.line (own x c).among (own x c).mine served).asks

        by_test : (b : Bool) → these x.line ≡ b → ((these x.line ≡ true) × IsServed x.line.request × IsOfLot S lot x.line.request)
            ⊎ ((these x.line ≡ false) × (IsAtMark x.line.request ⊎ (IsServed x.line.request × IsElse tells state offers s lot x.line.request)))
        by_test true is = let k = on_lot tells state offers s script (w + 1) w x.line (among x c) x.line.request refl is (alone_there.lines x.line (among x c) is) in inl (is, k.0, k.1)
        by_test false is = inr (is, elsewhere tells state offers s script (w + 1) w x.line (among x c) alone_there.tabs x.line.request refl asks is)

    done : AllServed tells state offers faults s script lot cap refl begins stays told (holds_file tells state offers slot anchors passes origin cells s ps over told holds) record { front = fronts; whole = wholes }
        (let z = slots.size.to in let e = over.slot_is in omega arith) these a.start.pass owns (λ v. v) a.stages a.last plain
    done = all_served tells state offers faults s script lot cap refl begins stays told (holds_file tells state offers slot anchors passes origin cells s ps over told holds) record { front = fronts; whole = wholes }
        (let z = slots.size.to in let e = over.slot_is in omega arith) these a.start.pass owns (λ v. v) a.stages a.start a.last plain h.has_steps.linked fair
        (subst (λ (ls : List Line). plain.counter + offers_in (filter these ls) ≤ 4294901760) (sym own_lines) (fewer_fit S (lines_for (w + 1) script) plain these fit).versions) started

    answers_are : answers_to these (lines_for (w + 1) script) (map (λ x. x.answer) a.stages) ≡ map (renamed done.names) (answers S script (private_lines S script (w + 1)) plain)
    answers_are = subst (λ (ls : List Line). answers_to these ls (map (λ x. x.answer) a.stages) ≡ map (renamed done.names) (answers S script (filter these ls) plain)) own_lines done.answered

    -- a tab that is none of the lot leaves the lot as it is
    others_left : (t : ℕ) (p q : Pass C) (p0 : Plain) → t < whole_tab → lot.tabs t ≡ false → LeftTab tells state offers s t p q → OwnsLot g lot (view p).pass
        → ShowsLot tells state offers s done.names p p0 lot → ShowsLot tells state offers s done.names q p0 lot
    others_left t p q p0 below away l owned was = other_left tells state offers s begins stays done.names lot t p q p0 below away l owned was refl alone_there.fits_is

    -- its answers are those of a plain store of its own
    abbrev served_so : IsServedAlone S script (w + 1) plain (map (λ x. x.answer) a.stages)
    served_so = record {
      rename = done.names;
      is = subst (λ (n : ℕ). IsRenaming n done.names) (sym counter_is) done.reached.fit.is;
      answered = answers_are;
      in_turn = told_in_turn S script (w + 1) plain (map (λ x. x.answer) a.stages) done.names answers_are;
    }

    module _ (placed : PlacedPieces) (accounts : List (Account (OnShelf C O St))) (at : At accounts w a) (left : List C) (closed : Closed tells state g (map (λ b. view b.end.pass) accounts) left) where
      -- it left all tabs
      at_end : LotLeft tells state offers s begins stays done.names lot others_left a.end.pass (after S script (private_lines S script (w + 1)) plain)
      at_end = subst (λ (ls : List Line). LotLeft tells state offers s begins stays done.names lot others_left a.end.pass (after S script (filter these ls) plain)) own_lines
          (lot_left_all tells state offers s begins stays done.names lot others_left a.last.pass a.end.pass (after S script (filter these (map (λ x. x.line) a.stages)) plain) refl
          (subst (λ (z : Store C O). LeftBelow tells state offers z whole_tab a.last.pass a.end.pass) done.reached.store h.has_steps.left.left)
          (lot_stays g lot (view a.start.pass) (view a.last.pass) done.reached.number owns) done.reached.shows done.reached.free)

      view_there : get_elem? (map (λ (b : Account (OnShelf C O St)). view b.end.pass) accounts) w ≡ some (view a.end.pass)
      view_there = image_at (λ (b : Account (OnShelf C O St)). view b.end.pass) accounts w a at

      pub run_so : IsPrivateRun g.slot S script (w + 1) plain (map (λ x. x.answer) a.stages) (left_private g script (w + 1) w) (left_private g script (w + 1) w) (word closed.gathered.state) (map (λ c. (state c).now) left)
      run_so = record {
        served = served_so;
        entries = entries_there tells state offers slot anchors passes origin cells s ps over told as_wide slots one placed done.names lot w a.end.pass (left_alone S script (w + 1) plain)
            (map (λ b. view b.end.pass) accounts) left closed view_there at_end.owns at_end.shows;
        ended = words_there tells state offers slot anchors passes origin cells s ps over told as_wide slots one placed done.names lot w a.end.pass (left_alone S script (w + 1) plain)
            (map (λ b. view b.end.pass) accounts) left closed view_there at_end.owns at_end.shows;
      }

  -- the same, over the cells
  pub private_run : (placed : PlacedPieces) (accounts : List (Account (OnShelf C O St))) → At accounts w a → (left : List C) (closed : Closed tells state g (map (λ b. view b.end.pass) accounts) left)
      → IsAloneAtItsAnchors g script (w + 1) w → Fits (setting_over slot anchors (length cells)) (lines_for (w + 1) script) plain
      → IsPrivateRun slot (setting_over slot anchors (length cells)) script (w + 1) plain (map (λ x. x.answer) a.stages) (left_private g script (w + 1) w) (left_private g script (w + 1) w) (word closed.gathered.state) (map (λ c. (state c).now) left)
  private_run placed accounts at left closed alone_there fit =
      subst (λ (n : ℕ). IsPrivateRun n (setting_over slot anchors (length cells)) script (w + 1) plain (map (λ x. x.answer) a.stages) (left_private g script (w + 1) w) (left_private g script (w + 1) w) (word closed.gathered.state) (map (λ c. (state c).now) left)) over.slot_is
      (subst (λ (t : Setting). IsPrivateRun g.slot t script (w + 1) plain (map (λ x. x.answer) a.stages) (left_private g script (w + 1) w) (left_private g script (w + 1) w) (word closed.gathered.state) (map (λ c. (state c).now) left)) setting_is
      (run_so alone_there (subst (λ (t : Setting). Fits t (lines_for (w + 1) script) plain) (sym setting_is) fit) placed accounts at left closed))
