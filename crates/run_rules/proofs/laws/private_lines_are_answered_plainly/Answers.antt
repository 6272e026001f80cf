use Rattle.std.proofs.Common.{Contains, ap, arith, length, length-append, map, refl, subst, sym, ◌+◌, ◌<◌, ◌==◌, ◌∙◌, ◌≡◌, ◌≤◌, ◌⊎◌, ℕ}
use Rattle.std.proofs.lemmas.List.{length-map}
use Rattle.rock_disk.specs.Cell.{CellState}
use Rattle.lock_word.specs.Words.{version_limit}
use Rattle.rebuild_model.specs.Image.{IsGreatest}
use Rattle.swap_meta.specs.Meta.{meta_bytes}
use Rattle.script_text.specs.declared.answer.Answer.TheVariants as answer
use Rattle.line_account.specs.Scripts.{offering}
use Rattle.plain_model.specs.declared.store.Plain.{Plain}
use Rattle.plain_model.specs.Serving.{lines_for}
use Rattle.plain_model.specs.Slots.{held}
use Rattle.plain_model.specs.Store.{place_at}
use Rattle.plain_laws.specs.Fitting.{Fits}
use Rattle.worker_pool.specs.Running.{answers_of}
use Rattle.run_rules.specs.Fitting.{FitsInto}
use Rattle.plain_runs.specs.Alone.{AreTabsApart}
use Rattle.store_key.specs.Key.{key_of}
use Rattle.script_text.specs.declared.answer.Answer.{Answer}
use Rattle.core_model.specs.Anchors.{opening_counter}
use Rattle.entry_cut.specs.Content.{room_of}
use Rattle.plain_model.specs.Opening.{IsOpened}
use Rattle.plain_laws.specs.Opened.{HoldsOfFile}
use Rattle.plain_runs.specs.Runs.{setting_over}
use Rattle.plain_laws.specs.Private.{is_private}
use Rattle.plain_runs.specs.PrivateRuns.{left_private}
use Rattle.store_rule.specs.Passes.{basis}
use Rattle.worker_pool.specs.Courses.{Stage}
use Rattle.rock_run.specs.Offered.{offers_of}
use Rattle.run_rules.proofs.EntriesLeft.{greatest_below}
use Rattle.run_rules.proofs.Fitting.{OneWinner, fits_is}
use Rattle.run_rules.proofs.Lists.{at_place, both}
use Rattle.run_rules.proofs.Numbers.{one_by_one}
use Rattle.run_rules.proofs.Opened.{has_played}
use Rattle.run_rules.proofs.Private.{account_of, alone_there, answer_lists, answers_counted, cells_back, images_are, own_there, run_over, station_of, told_of}
use Rattle.run_rules.proofs.PrivateAnchors.{at_private, unnamed_stands}
use Rattle.run_rules.proofs.Suiting.{ContentSizes, HeldOfFile, suffices}
use Rattle.run_rules.proofs.Unspent.{never_spent}
use Rattle.run_rules.proofs.laws.private_lines_are_answered_plainly.Goals as goal

pub returns : goal.returns
returns g c tells files left name slot anchors workers script answers before after sized numbered h told =
    let opens = c.new_passes_show_plain_stores.ensures.opens slot anchors workers script h.closed.opened.cells h.closed.store h.closed.passes
    (h.closed.opened.told told) h.closed.opened.store in
    let out = h.closed.opened.out told in
    record {
      images = map (λ (x : g.row.C.Denot). (g.C.Cell.state x).now) h.closed.opened.cells;
      file = record {
        was = out.was;
        there = out.found;
        images_are = sym (both g.C.Cell.state (λ (x : CellState). x.now) h.closed.opened.cells) ∙ ap (map (λ (x : CellState). x.now)) out.cells_are;
      };
      plain = opens.0;
      opened = opens.1;
      back = map (λ (x : g.row.C.Denot). (g.C.Cell.state x).now) h.closed.cells;
      given_back = cells_back tells g.C.Cell.tells g.C.Cell.state g.St.Station.faults files left name slot anchors workers script answers before after h told;
      many = answer_lists tells g.C.Cell.tells g.C.Cell.state g.St.Station.faults files left name slot anchors workers script answers before after h told;
      counted = λ j mine at. answers_counted tells g.C.Cell.tells g.C.Cell.state g.St.Station.faults files left name slot anchors workers script answers before after h told j mine at;
      each = λ stations ended j mine at none images plain room alone.
          let cells = h.closed.opened.cells in
          let store = h.closed.opened.store in
          let known = h.closed.opened.told told in
          let ground = basis g.C.Cell.tells g.C.Cell.state offers_of h.closed.store in
          let one : OneWinner = λ slot images anchors anchor e f won other. c.one_winner_at_an_anchor.ensures.one slot images anchors anchor e f won other in
          let account = account_of tells g.C.Cell.tells g.C.Cell.state g.St.Station.faults files left name slot anchors workers script answers before after h told j mine at in
          let same : images ≡ map (λ (x : g.row.C.Denot). (g.C.Cell.state x).now) cells = images_are tells g.C.Cell.tells g.C.Cell.state g.St.Station.faults files left name slot anchors workers script answers before after h told images room.file in
          let many : length images ≡ length cells = ap length same ∙ length-map cells (λ (x : g.row.C.Denot). (g.C.Cell.state x).now) in
          let opening = c.opened_stores_have_runs.ensures.opening slot anchors workers script cells h.closed.store h.closed.passes store in
          let from = h.closed.opened.fit.from in
          let to = h.closed.opened.fit.to in
          let kept_many = opening.kept.many in
          let fitting = fits_is g.C.Cell.tells g.C.Cell.state ground slot anchors script cells opening one store.anchors_are store.slot_is
          (store.slots_are ∙ sym opening.kept.many) store.offers_are (omega (arith, from, to, kept_many)) in
          let fit = fitting.1 (subst (λ z. FitsInto slot anchors z script) (same ∙ sym (opening.kept.told known)) room.slots) in
          let explained_there = c.runs_keep_the_rules.ensures tells files left name slot anchors workers script answers before after
          (let most = sized.to in omega arith) h in
          let explained = explained_there.0 in
          let many_kept : length opening.kept.images ≡ length images = ap length (opening.kept.told known ∙ sym same) in
          let counter = greatest_below slot images (opening_counter explained.run.setting) room.opened.rebuilt.greatest
          (subst (λ z. IsGreatest slot z (opening_counter explained.run.setting))
          (images_are tells g.C.Cell.tells g.C.Cell.state g.St.Station.faults files left name slot anchors workers script answers before after h told explained.images (explained.file told) ∙ sym same) explained.began.counter) room.opened.is.greatest in
          let greatest = ap Plain.counter room.opened.store in
          let versions = room.versions in
          let suffice : opening_counter explained.run.setting + offering script ≤ version_limit = omega (arith, counter, greatest, versions) in
          let sizes : ContentSizes = λ url body. length-append (meta_bytes (key_of url) url) body
          ∙ ap (λ n. n + length body) (c.written_meta_is_spelled.ensures.size (key_of url) url (c.keys_have_16_bytes.ensures.length url)) in
          let wide : 40 < slot = (let least = sized.from in omega arith) in
          let whole : room_of slot + 40 ≡ slot = omega (arith, wide) in
          let holds : HeldOfFile slot images anchors plain = λ a.
          subst (λ n. (held (room_of slot) (place_at plain a) ≡ 0) ⊎ HoldsOfFile n images anchors a (room_of slot) plain) whole
          (c.anchors_hold_slots_of_the_file.ensures (room_of slot) images anchors a plain
          (subst (λ n. IsOpened n images anchors plain) (sym whole) room.opened)) in
          let fits_all : Fits (setting_over slot anchors (length images)) script plain = record {
            slots = suffices slot anchors images script plain sizes wide one holds room.slots;
            versions = room.versions;
          } in
          let fits_own = c.fitting_scripts_have_room.ensures.fewer (setting_over slot anchors (length images)) script plain (λ line. line.worker == j + 1) fits_all in
          let run = c.private_runs_are_plain.ensures slot anchors workers script cells h.closed.cells h.closed.store h.closed.passes script
          h.served.played.accounts j account.item plain known
          (c.opened_slots_are_wide_and_few.ensures.slots slot h.closed.opened.bytes _ _ sized h.closed.opened.shape) store
          (one_by_one script numbered)
          (has_played tells g.C.Cell.tells g.C.Cell.state g.St.Station.faults files left name slot anchors workers script answers before after h)
          (at_place h.served.played.accounts j account.item account.at)
          (station_of tells g.C.Cell.tells g.C.Cell.state g.St.Station.faults files left name slot anchors workers script answers before after h told stations ended j 0 none account.item account.at)
          (subst (λ z. IsOpened slot z anchors plain) same room.opened) (omega (arith, from))
          (λ x among versions is. never_spent explained.run script explained.crew explained.rules suffice answers explained.printed j
          x.line.number versions mine at (subst (λ z. Contains z (x.line.number, answer.Spent versions)) account.is
          (subst (λ (z : Answer). Contains (answers_of account.item) (x.line.number, z)) is (told_of tells g.C.Cell.tells g.C.Cell.state g.St.Station.faults files left name slot anchors workers script answers before after h told account.item x among))))
          (alone_there tells g.C.Cell.tells g.C.Cell.state g.St.Station.faults files left name slot anchors workers script answers before after h told j fit (subst (λ n. AreTabsApart (setting_over slot anchors n) script (j + 1)) many alone))
          (subst (λ n. Fits (setting_over slot anchors n) (lines_for (j + 1) script) plain) many fits_own) in
          let given : map (λ x. x.answer) account.item.stages ≡ map (λ (x : ℕ × Answer). x.1) mine =
          sym (both (λ (x : Stage _). (x.line.number, x.answer)) (λ (x : ℕ × Answer). x.1) account.item.stages)
          ∙ ap (map (λ (x : ℕ × Answer). x.1)) account.is in
          let rest = c.stores_begin_at_rest.ensures.file (setting_over slot anchors (length images)) images plain refl
          (subst (λ n. IsOpened n images anchors plain) (sym whole) room.opened) in
          let unnamed = unnamed_stands tells g.C.Cell.tells g.C.Cell.state g.St.Station.faults files left name slot anchors workers script answers before after h told
          images room.file plain room.opened explained_there.0 explained_there.1
          (c.runs_leave_standing.ensures tells files left name slot anchors workers script answers before after sized numbered h told) one room.slots j
          (λ lines fits. c.fitting_scripts_have_room.ensures.room (setting_over slot anchors (length images)) script lines plain
          (omega (arith, wide, whole)) (omega (arith, from)) (omega (arith, from, to, kept_many, many_kept)) rest.2 rest.0 fits)
          (c.fitting_scripts_have_room.ensures.fewer (setting_over slot anchors (length images)) (lines_for (j + 1) script) plain
          (is_private (setting_over slot anchors (length images)) script (j + 1)) fits_own) rest.3 in
          at_private slot anchors (length images) script (j + 1) plain _ (left_private ground script (j + 1) j) _ _
          (own_there tells g.C.Cell.tells g.C.Cell.state g.St.Station.faults files left name slot anchors workers script answers before after h told j images many plain fit)
          unnamed
          (run_over tells g.C.Cell.tells g.C.Cell.state g.St.Station.faults files left name slot anchors workers script answers before after h told j images many plain
          (map (λ x. x.answer) account.item.stages) (map (λ (x : ℕ × Answer). x.1) mine) given run);
    }
