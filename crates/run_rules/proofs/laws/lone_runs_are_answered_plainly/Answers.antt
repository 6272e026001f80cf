use Rattle.std.proofs.Common.{List, Some, arith, length, map, subst, sym, ◌<◌, ◌≡◌, ℕ}
use Rattle.std.proofs.lemmas.List.{length-map}
use Rattle.store_rule.specs.Closing.{views_of}
use Rattle.store_rule.specs.Passes.{basis, view}
use Rattle.crew_accounts.specs.Saved.{saved_as}
use Rattle.rock_disk.specs.Crash.{IsCrashImage}
use Rattle.plain_runs.specs.Ends.{StandsClosed}
use Rattle.plain_runs.specs.Runs.{setting_over}
use Rattle.rock_run.specs.Offered.{offers_of}
use Rattle.run_rules.specs.Standing.{KeepsWhole, WasKept}
use Rattle.run_rules.proofs.Lists.{at_place}
use Rattle.plain_model.specs.declared.entry.Entry.{Entry as PlainEntry}
use Rattle.plain_model.specs.declared.entry.Life.TheVariants.{Whole}
use Rattle.plain_model.specs.declared.store.Plain.{Plain}
use Rattle.plain_model.specs.Serving.{left_by}
use Rattle.plain_model.specs.Store.{entry_at}
use Rattle.run_rules.proofs.Lone.{at_first, first_view, has_alone, one, opened_alone, plainly, station_none, words_over}
use Rattle.run_rules.proofs.Numbers.{one_by_one}
use Rattle.run_rules.proofs.Opened.{has_played}
use Rattle.run_rules.proofs.EntriesLeft.{Laws, here_too, kept_left, kept_now, view_there}
use Rattle.run_rules.proofs.laws.lone_runs_are_answered_plainly.Goals as goal

pub returns : goal.returns
returns g c tells files left name slot anchors workers script answers before after sized numbered h alone told none =
    let first = one tells g.C.Cell.tells g.C.Cell.state g.St.Station.faults files left name slot anchors workers script answers before after
    h alone told in
    let cells = h.closed.opened.cells in
    let known = h.closed.opened.told told in
    let store = opened_alone tells g.C.Cell.tells g.C.Cell.state g.St.Station.faults files left name slot anchors workers script answers
    before after h alone told in
    let opens = c.new_passes_show_plain_stores.ensures.opens slot anchors 1 script cells h.closed.store h.closed.passes known store in
    let run = c.lone_runs_are_plain.ensures slot anchors script cells h.closed.cells h.closed.store h.closed.passes script
    h.served.played.accounts first.only opens.0 known
    (c.opened_slots_are_wide_and_few.ensures.slots slot h.closed.opened.bytes _ _ sized h.closed.opened.shape) store
    (one_by_one script numbered)
    (has_alone tells g.C.Cell.tells g.C.Cell.state g.St.Station.faults files left name slot anchors workers script answers before after h
    alone told)
    (at_first tells g.C.Cell.tells g.C.Cell.state g.St.Station.faults files left name slot anchors workers script answers before after h
    alone told)
    (station_none tells g.C.Cell.tells g.C.Cell.state g.St.Station.faults files left name slot anchors workers script answers before after h
    alone told none) opens.1 in
    let laws : Laws tells g.C.Cell.tells g.C.Cell.state g.St.Station.faults files left name slot anchors workers script answers before after
    h told = record {
      wins = λ a lt stage. c.closed_entries_win.ensures slot anchors workers script h.closed.opened.cells h.closed.store h.closed.passes
          (views_of h.closed.left) h.closed.cells a (h.closed.opened.told told) (let most = sized.to in omega arith)
          (let few = c.opened_slots_are_wide_and_few.ensures.few slot h.closed.opened.bytes _ _ h.closed.opened.shape in
          let same = length-map h.closed.opened.cells g.C.Cell.state in omega arith) h.closed.opened.store h.closed.closed lt stage;
      of_line = here_too tells g.C.Cell.tells g.C.Cell.state g.St.Station.faults files left name slot anchors workers script answers before
          after h told (λ a lt stage undoomed new. c.closed_entries_are_of_lines.ensures h.closed.store script h.served.played.accounts
          h.closed.cells a (has_played tells g.C.Cell.tells g.C.Cell.state g.St.Station.faults files left name slot anchors workers script
          answers before after h) lt stage undoomed new);
      lasts = λ w account at x among url body version is answered version_is stage.
          let ground = basis g.C.Cell.tells g.C.Cell.state offers_of h.closed.store in
          let known = c.saved_entries_stay_known.ensures.known h.closed.store script w account x url body version
          (h.served.played.each w account (at_place h.served.played.accounts w account at)) among is answered in
          let there = view_there tells g.C.Cell.tells g.C.Cell.state g.St.Station.faults files left name slot anchors workers script answers
          before after h w account at in (
            c.finished_entries_last.ensures.lasting ground (views_of h.closed.left) h.closed.cells
                (saved_as ground x.line.number url version) (view account.end.pass) w h.closed.closed there known version_is stage,
            c.finished_entries_last.ensures.offer ground (views_of h.closed.left) h.closed.cells (saved_as ground x.line.number url version)
                (view account.end.pass) w h.closed.closed there known version_is,
          );
      offers = λ w account at x among url body is. c.saved_entries_stay_known.ensures.offered h.closed.store script w account x url body
          (h.served.played.each w account (at_place h.served.played.accounts w account at)) among is;
    } in
    let behind : Plain = left_by (setting_over slot anchors (length cells)) script 1 opens.0 in
    let closed : (a : ℕ) (e : PlainEntry) → a < anchors → entry_at behind a ≡ Some e → e.life ≡ Whole
    → StandsClosed (basis g.C.Cell.tells g.C.Cell.state offers_of h.closed.store) h.closed.closed.gathered.state behind a e =
    λ a e lt there whole. c.whole_entries_stand_closed.ensures h.closed.store first.only.end.pass _
    (views_of h.closed.left) h.closed.cells h.closed.closed a e store.passes_are
    (first_view tells g.C.Cell.tells g.C.Cell.state g.St.Station.faults files left name slot anchors workers script answers before after h
    alone told) run.shows (subst (λ n. a < n) (sym store.anchors_are) lt) there whole in
    let kept : KeepsWhole slot anchors (map (λ (c : g.row.C.Denot). (g.C.Cell.state c).now) h.closed.cells) behind (λ e. Unit {0}) =
    λ a e lt there whole undoomed _. let sc = closed a e lt there whole in
    kept_now tells g.C.Cell.tells g.C.Cell.state g.St.Station.faults files left name slot anchors workers script answers before after h
    told laws a lt sc.stage c.one_entry_at_a_slot.ensures _ e sc in
    let lasting : (crashed : List (List ℕ)) → IsCrashImage (map g.C.Cell.state h.closed.cells) crashed
    → KeepsWhole slot anchors crashed behind (WasKept (length cells) script) =
    λ crashed crash a e lt there whole undoomed was. let sc = closed a e lt there whole in
    kept_left tells g.C.Cell.tells g.C.Cell.state g.St.Station.faults files left name slot anchors workers script answers before after h
    told laws a lt sc.stage c.one_entry_at_a_slot.ensures _ e sc numbered (sc.doom undoomed) was crashed crash in (
      plainly tells g.C.Cell.tells g.C.Cell.state g.St.Station.faults files left name slot anchors workers script answers before after h
          alone told opens.0 opens.1 run kept lasting,
      words_over tells g.C.Cell.tells g.C.Cell.state g.St.Station.faults files left name slot anchors workers script answers before after h
          alone told opens.0 opens.1 run kept lasting
          (λ a lt. c.closed_words_are_plain.ensures h.closed.store first.only.end.pass _ _ h.closed.cells h.closed.closed a store.passes_are
          (first_view tells g.C.Cell.tells g.C.Cell.state g.St.Station.faults files left name slot anchors workers script answers before
          after h alone told) run.shows lt),
    )
