use Rattle.std.proofs.Common.{arith}
use Rattle.std.proofs.lemmas.List.{length-map}
use Rattle.store_rule.specs.Closing.{views_of}
use Rattle.store_rule.specs.Passes.{basis, view}
use Rattle.crew_accounts.specs.Saved.{saved_as}
use Rattle.rock_run.specs.Offered.{offers_of}
use Rattle.run_rules.proofs.Lists.{at_place}
use Rattle.run_rules.proofs.Opened.{has_played}
use Rattle.run_rules.proofs.EntriesLeft.{here_too, standing, view_there}
use Rattle.run_rules.proofs.standing.runs_leave_standing.Goals as goal

pub returns : goal.returns
returns g c tells files left name slot anchors workers script answers before after sized order h told =
    standing tells g.C.Cell.tells g.C.Cell.state g.St.Station.faults files left name slot anchors workers script answers before after h told
    record {
      wins = λ a lt stage. c.closed_entries_win.ensures slot anchors workers script h.closed.opened.cells h.closed.store h.closed.passes
          (views_of h.closed.left) h.closed.cells a (h.closed.opened.told told) (let most = sized.to in omega arith)
          (let few = c.opened_slots_are_wide_and_few.ensures.few slot h.closed.opened.bytes _ _ h.closed.opened.shape in
          let same = length-map h.closed.opened.cells g.C.Cell.state in omega arith) h.closed.opened.store h.closed.closed lt stage;
      of_line = here_too tells g.C.Cell.tells g.C.Cell.state g.St.Station.faults files left name slot anchors workers script answers before
          after h told (λ a lt stage undoomed new. c.closed_entries_are_of_lines.ensures h.closed.store script h.served.played.accounts
          h.closed.cells a (has_played tells g.C.Cell.tells g.C.Cell.state g.St.Station.faults files left name slot anchors workers script
          answers before after h) lt stage undoomed new);
      lasts = λ w account at x among url body version is answered version_is stage.
          let ground = basis g.C.Cell.tells g.C.Cell.state offers_of h.closed.store in
          let known = c.saved_entries_stay_known.ensures.known h.closed.store script w account x url body version
          (h.served.played.each w account (at_place h.served.played.accounts w account at)) among is answered in
          let there = view_there tells g.C.Cell.tells g.C.Cell.state g.St.Station.faults files left name slot anchors workers script answers
          before after h w account at in (
            c.finished_entries_last.ensures.lasting ground (views_of h.closed.left) h.closed.cells
                (saved_as ground x.line.number url version) (view account.end.pass) w h.closed.closed there known version_is stage,
            c.finished_entries_last.ensures.offer ground (views_of h.closed.left) h.closed.cells (saved_as ground x.line.number url version)
                (view account.end.pass) w h.closed.closed there known version_is,
          );
      offers = λ w account at x among url body is. c.saved_entries_stay_known.ensures.offered h.closed.store script w account x url body
          (h.served.played.each w account (at_place h.served.played.accounts w account at)) among is;
    }
    (λ w account at x among url epoch is answered high crashed crash e complete.
    let seen = c.wiped_slots_stay_seen.ensures h.closed.store script w account x url epoch (h.served.played.each w account (at_place h.served.played.accounts w account at)) among is answered in
    let there = view_there tells g.C.Cell.tells g.C.Cell.state g.St.Station.faults files left name slot anchors workers script answers before after h w account at in
    (c.wiped_entries_do_not_come_back.ensures.closed slot anchors workers script h.closed.opened.cells h.closed.store h.closed.passes (views_of h.closed.left) h.closed.cells crashed (view account.end.pass) w _ epoch.version seen.slot
    (h.closed.opened.told told) (let most = sized.to in omega arith)
    (let few = c.opened_slots_are_wide_and_few.ensures.few slot h.closed.opened.bytes _ _ h.closed.opened.shape in let same = length-map h.closed.opened.cells g.C.Cell.state in omega arith)
    h.closed.opened.store h.closed.closed crash there seen.seen).new high e complete)
    order
    (λ images e is complete. c.closed_cells_leave_responses.ensures slot anchors workers script h.closed.opened.cells h.closed.store
    h.closed.passes _ h.closed.cells images e (h.closed.opened.told told) (let most = sized.to in omega arith)
    (let few = c.opened_slots_are_wide_and_few.ensures.few slot h.closed.opened.bytes _ _ h.closed.opened.shape in
    let same = length-map h.closed.opened.cells g.C.Cell.state in omega arith) h.closed.opened.store h.closed.closed is complete)
    (λ cell. g.met.C.Cell.now_may_stay cell (h.closed.opened.told told))
    c.now_is_a_crash_image.ensures
